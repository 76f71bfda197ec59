use Rattle.gltf_accessors.specs.Indices.{index_at}
use Rattle.gltf_accessors.proofs.Rising.{Steps}
use Rattle.gltf_accessors.proofs.sparse.check_rising.Given as goal

abbrev pub invariant-loop-place : goal.invariant-loop-place
invariant-loop-place l = Steps (index_at l.indices.kind l.indices.elements.bytes.now l.indices.elements.span) l.place
