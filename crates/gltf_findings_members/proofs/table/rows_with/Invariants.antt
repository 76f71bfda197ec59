-- No rows before have the name.
use Rattle.std.proofs.Common.{◌≡◌, drop}
use Rattle.gltf_findings_members.specs.Format.{rows_with, lists_in}
use Rattle.gltf_findings_members.proofs.table.rows_with.Given as goal

abbrev pub invariant-loop-rows : goal.invariant-loop-rows
invariant-loop-rows l = rows_with l.name (lists_in l.known) ≡ rows_with l.name (lists_in (drop l.rows-index l.known))
