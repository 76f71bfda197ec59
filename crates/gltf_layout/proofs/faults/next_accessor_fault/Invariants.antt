use Rattle.gltf_layout.specs.Places.{HavePlaces}
use Rattle.gltf_layout.proofs.faults.next_accessor_fault.Given as goal

abbrev pub invariant-loop-number : goal.invariant-loop-number
invariant-loop-number g l = HavePlaces (g.D.Storage.stored l.document) l.from l.number
