-- A list is empty if its view is.
use Rattle.std.proofs.Common.{rules}
use Rattle.serde_json.proofs.Views.{items_len-items_view}
use Rattle.gltf_findings_members.proofs.lists.empty_code.Goals as goal

pub returns-else-is_empty : goal.returns-else-is_empty
returns-else-is_empty c = rw (items_len-items_view c.args.items.now) (search rules)
