-- A document with another list in place of one of its own, and with one more item at a list's end.
use Rattle.std.specs.Prelude.{ℕ, List, [], ◌∷◌, ◌++◌}
use Rattle.gltf_base.specs.Lists.{ListName}
use Rattle.gltf_base.specs.Steps.{Step, item}
use Rattle.gltf_schema.specs.Tree.{Tree, list, Trees, end, with_tree}
use Rattle.gltf_schema.specs.Kind.{Kind}
use Rattle.gltf_parts.specs.Accessor.{accessor_kind}
use Rattle.gltf_parts.specs.Buffer.{buffer_kind, view_kind}
use Rattle.gltf_parts.specs.Image.{image_kind}
use Rattle.gltf_parts.specs.Texture.{sampler_kind, texture_kind}
use Rattle.gltf_parts.specs.Material.{material_kind}
use Rattle.gltf_scene.specs.Mesh.{mesh_kind}
use Rattle.gltf_scene.specs.Camera.{camera_kind}
use Rattle.gltf_scene.specs.Light.{light_kind, variant_kind}
use Rattle.gltf_scene.specs.Scene.{node_kind, scene_kind, skin_kind}
use Rattle.gltf_scene.specs.Animation.{animation_kind}
use Rattle.gltf_root.specs.Lists.{list_in, list_way}
use Rattle.gltf_root.specs.Named.{way_steps, with_reached}

-- a document with another list of a name; all else is as it was
abbrev pub with_list : ListName → Trees → Tree → Tree
with_list named items root = with_reached (list_way named) (list items) root

-- trees with another one behind them
abbrev pub with_last : Tree → Trees → Trees
with_last x end = with_tree x end
with_last x (with_tree t ts) = with_tree t (with_last x ts)

-- a document with an item at the end of a list
abbrev pub pushed : ListName → Tree → Tree → Tree
pushed named x root = with_list named (with_last x (list_in named root)) root

-- the steps to each list
abbrev pub list_steps : ListName → List Step
list_steps named = way_steps (list_way named)

-- the place of the item of a list at a number
abbrev pub item_place : ListName → ℕ → List Step
item_place named n = list_steps named ++ item n ∷ []

-- what the items of each list are
abbrev pub item_kind : ListName → Kind
item_kind ListName.accessors = accessor_kind
item_kind ListName.animations = animation_kind
item_kind ListName.buffers = buffer_kind
item_kind ListName.buffer_views = view_kind
item_kind ListName.cameras = camera_kind
item_kind ListName.images = image_kind
item_kind ListName.materials = material_kind
item_kind ListName.meshes = mesh_kind
item_kind ListName.nodes = node_kind
item_kind ListName.samplers = sampler_kind
item_kind ListName.scenes = scene_kind
item_kind ListName.skins = skin_kind
item_kind ListName.textures = texture_kind
item_kind ListName.lights = light_kind
item_kind ListName.variants = variant_kind
