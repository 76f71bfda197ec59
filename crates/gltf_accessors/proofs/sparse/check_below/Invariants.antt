use Rattle.gltf_accessors.specs.Sparse.{AreBelow}
use Rattle.gltf_accessors.proofs.sparse.check_below.Given as goal

abbrev pub invariant-loop-place : goal.invariant-loop-place
invariant-loop-place l = AreBelow l.indices.kind l.indices.elements.bytes.now l.indices.elements.span l.count l.place
