-- No row before this one has the name.
use Rattle.std.proofs.Common.{◌≡◌, drop}
use Rattle.gltf_findings_members.specs.Rows.{row_named}
use Rattle.gltf_findings_members.proofs.seen.place_of.Given as goal

abbrev pub invariant-loop-i : goal.invariant-loop-i
invariant-loop-i l = row_named l.name l.rows ≡ row_named l.name (drop l.i l.rows)
