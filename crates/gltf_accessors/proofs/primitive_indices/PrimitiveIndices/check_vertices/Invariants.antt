use Rattle.gltf_accessors.specs.Vectors.{NameVertices}
use Rattle.gltf_accessors.proofs.primitive_indices.PrimitiveIndices.check_vertices.Given as goal

abbrev pub invariant-loop-place : goal.invariant-loop-place
invariant-loop-place l = NameVertices l.self l.restarts l.vertices l.place
