-- No row before this one has the name.
use Rattle.std.proofs.Common.{◌≡◌, drop}
use Rattle.gltf_findings_members.specs.Rows.{row_named}
use Rattle.gltf_findings_members.proofs.rows.row_named.Given as goal

abbrev pub invariant-loop-row : goal.invariant-loop-row
invariant-loop-row l = row_named l.name l.rows ≡ row_named l.name (drop l.row-index l.rows)
