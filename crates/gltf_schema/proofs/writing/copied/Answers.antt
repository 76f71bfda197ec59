use Rattle.std.proofs.Common.{rules}
use Rattle.gltf_schema.proofs.Putting.{copied}
use Rattle.gltf_schema.proofs.writing.copied.Goals as goal

pub returns : goal.returns
returns c = search (rules, copied)
