use Rattle.gltf_accessors.specs.Indices.{AreVerticesBelow}
use Rattle.gltf_accessors.proofs.indices.indices_are_vertices.Given as goal

abbrev pub invariant-loop-place : goal.invariant-loop-place
invariant-loop-place l = AreVerticesBelow l.indices.kind l.indices.elements.bytes.now l.indices.elements.span l.restarts l.vertices l.place
