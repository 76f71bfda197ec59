-- A list has as many items as its view.
use Rattle.std.proofs.Common.{rules}
use Rattle.serde_json.proofs.Views.{items_len-items_view}
use Rattle.gltf_findings_members.proofs.lists.length_code.Goals as goal

pub returns-then-items-count : goal.returns-then-items-count
returns-then-items-count c = rw (items_len-items_view c.args.items.now) (search rules)

pub returns-else-items-count : goal.returns-else-items-count
returns-else-items-count c = rw (items_len-items_view c.args.items.now) (search rules)
