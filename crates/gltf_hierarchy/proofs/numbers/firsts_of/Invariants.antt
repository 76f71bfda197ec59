use Rattle.gltf_hierarchy.specs.Forest.{forest_order, forest_parents}
use Rattle.gltf_hierarchy.specs.Shares.{AreFirstsBefore}
use Rattle.gltf_hierarchy.proofs.numbers.firsts_of.Given as goal

abbrev pub invariant-loop-place : goal.invariant-loop-place
invariant-loop-place l = AreFirstsBefore (forest_parents l.forest) (forest_order l.forest) l.sizes l.offsets l.firsts.items l.place
