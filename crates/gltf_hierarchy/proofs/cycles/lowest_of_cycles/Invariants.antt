use Rattle.gltf_hierarchy.specs.Trailing.{IsMarking}
use Rattle.gltf_hierarchy.proofs.cycles.lowest_of_cycles.Given as goal

abbrev pub invariant-loop-start : goal.invariant-loop-start
invariant-loop-start l = IsMarking l.parents l.start l.trail l.marks.items
