use Rattle.gltf_hierarchy.specs.Forest.{forest_parents}
use Rattle.gltf_load.proofs.Rooted.{roots_named}
use Rattle.gltf_load.proofs.scene.is_scene_of.Goals as goal

pub returns : goal.returns
returns c = λ nodes s. roots_named nodes (forest_parents c.args.forest.now) c.args.scene.now.nodes.items c.deref.result.now c.are_roots.result s c.deref.ensures.value c.are_roots.ensures
