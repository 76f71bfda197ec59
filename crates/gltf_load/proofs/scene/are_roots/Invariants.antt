use Rattle.gltf_hierarchy.specs.Forest.{forest_parents}
use Rattle.gltf_load.specs.Roots.{AreRootsBefore}
use Rattle.gltf_load.proofs.scene.are_roots.Given as goal

abbrev pub invariant-loop-place : goal.invariant-loop-place
invariant-loop-place g l = AreRootsBefore (forest_parents l.forest) l.indexes l.place
