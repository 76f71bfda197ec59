use Rattle.gltf_hierarchy.specs.Listing.{AreAdded}
use Rattle.gltf_hierarchy.proofs.faults.add_cycles.Given as goal

abbrev pub invariant-loop-node : goal.invariant-loop-node
invariant-loop-node l = AreAdded l.initial.faults.items l.faults.items l.marks l.node
