-- If the rows of the names that are left have their member, those of all have.
use Rattle.std.proofs.Common.{drop}
use Rattle.gltf_findings_members.specs.Look.{NamesSeen}
use Rattle.gltf_findings_members.proofs.seen.has_names.Given as goal

abbrev pub invariant-loop-name : goal.invariant-loop-name
invariant-loop-name l = NamesSeen l.rows l.seen (drop l.name-index l.names) → NamesSeen l.rows l.seen l.names
