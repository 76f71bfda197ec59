-- The findings so far have no positions.
use Rattle.std.proofs.Common.{take}
use Rattle.std.specs.List.{AllZip}
use Rattle.gltf_findings_lines.specs.Placed.{HasNone}
use Rattle.gltf_findings_lines.proofs.placed.without_positions.Given as goal

abbrev pub invariant-loop-one : goal.invariant-loop-one
invariant-loop-one l = AllZip HasNone (take l.one-index l.shown) l.placed.items
