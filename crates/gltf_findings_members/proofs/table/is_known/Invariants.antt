-- No rows before these have the name.
use Rattle.std.proofs.Common.{◌≡◌, drop}
use Rattle.gltf_findings_members.specs.Format.{is_known, lists_in}
use Rattle.gltf_findings_members.proofs.table.is_known.Given as goal

abbrev pub invariant-loop-rows : goal.invariant-loop-rows
invariant-loop-rows l = is_known (lists_in l.known) l.name ≡ is_known (lists_in (drop l.rows-index l.known)) l.name
