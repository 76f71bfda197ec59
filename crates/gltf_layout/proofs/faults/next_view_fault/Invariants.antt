use Rattle.gltf_layout.specs.Places.{AreParts}
use Rattle.gltf_layout.proofs.faults.next_view_fault.Given as goal

abbrev pub invariant-loop-number : goal.invariant-loop-number
invariant-loop-number g l = AreParts (g.D.Storage.stored l.document) l.from l.number
