-- The findings and positions that are left give all.
use Rattle.std.proofs.Common.{◌≡◌, ◌++◌, drop}
use Rattle.gltf_findings_lines.specs.Placed.{placed_all}
use Rattle.gltf_findings_lines.proofs.placed.placed_at.Given as goal

abbrev pub invariant-loop-i : goal.invariant-loop-i
invariant-loop-i l = l.placed.items ++ placed_all (drop l.i l.shown) (drop l.i l.positions) ≡ placed_all l.shown l.positions
