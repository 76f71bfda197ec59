-- The positions so far are those of the first numbers.
use Rattle.std.proofs.Common.{◌≡◌, take, Some}
use Rattle.std.specs.Prelude.{slice_get}
use Rattle.std.specs.List.{AllZip}
use Rattle.gltf_findings_lines.proofs.position.positions_at.Given as goal

abbrev pub invariant-loop-place : goal.invariant-loop-place
invariant-loop-place l = AllZip (λ n p. slice_get l.starts n ≡ Some p) (take l.place-index l.places) l.positions.items
