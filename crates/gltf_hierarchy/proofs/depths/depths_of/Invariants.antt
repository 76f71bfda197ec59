use Rattle.gltf_hierarchy.specs.Depths.{AreDepthsBefore}
use Rattle.gltf_hierarchy.proofs.depths.depths_of.Given as goal

abbrev pub invariant-loop-place : goal.invariant-loop-place
invariant-loop-place l = AreDepthsBefore l.parents l.order l.depths.items l.place
