use Rattle.gltf_hierarchy.specs.Forest.{forest_order, forest_parents}
use Rattle.gltf_hierarchy.specs.Roots.{AreRootsBefore}
use Rattle.gltf_hierarchy.proofs.roots.roots_of.Given as goal

abbrev pub invariant-loop-place : goal.invariant-loop-place
invariant-loop-place l = AreRootsBefore (forest_parents l.forest) (forest_order l.forest) l.roots.items l.place
