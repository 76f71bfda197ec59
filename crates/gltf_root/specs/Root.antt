-- The rows of a whole document (glTF 2.0, section 5.17).
use Rattle.std.specs.Prelude.{false, codes, [], ◌∷◌}
use Rattle.gltf_base.specs.Lists.{ListName}
use Rattle.gltf_schema.specs.Tree.{list, end, Tree, Trees, trees, tree_or_absent}
use Rattle.gltf_schema.specs.Kind.{required, optional, unless, Kind, IndexInto, Text, Any, ListOf, Object, Rows, no_rows, ◌◂◌, requires_enabled}
use Rattle.gltf_parts.specs.Accessor.{accessor_kind, accessor_members}
use Rattle.gltf_parts.specs.Buffer.{buffer_kind, view_kind, buffer_members, view_members}
use Rattle.gltf_parts.specs.Image.{image_kind, image_members}
use Rattle.gltf_parts.specs.Texture.{sampler_kind, texture_kind, sampler_members, texture_members}
use Rattle.gltf_parts.specs.Material.{material_kind, material_members}
use Rattle.gltf_scene.specs.Mesh.{mesh_kind, mesh_members}
use Rattle.gltf_scene.specs.Asset.{asset_kind, asset_members}
use Rattle.gltf_scene.specs.Camera.{camera_kind, camera_members}
use Rattle.gltf_scene.specs.Scene.{node_kind, scene_kind, skin_kind, node_members, scene_members, skin_members}
use Rattle.gltf_scene.specs.Animation.{animation_kind, animation_members}
use Rattle.gltf_root.specs.RootExtension.{root_extensions_kind, root_extensions}
use Rattle.gltf_schema.specs.Defaults.{defaults}
use Rattle.gltf_schema.specs.Fields.{index_tree, text_tree, any_tree, list_tree, closed_object}
use Rattle.gltf_root.specs.Named.{put_named}
use Rattle.gltf_root.specs.declared.root.Root.{Root}

unfoldable pub root_rows : Rows
root_rows =
    (codes "accessors", unless (list end), ListOf accessor_kind)
    ◂ (codes "animations", unless (list end), ListOf animation_kind)
    ◂ (codes "asset", required, asset_kind)
    ◂ (codes "buffers", unless (list end), ListOf buffer_kind)
    ◂ (codes "bufferViews", unless (list end), ListOf view_kind)
    ◂ (codes "scene", optional, IndexInto ListName.scenes)
    ◂ (codes "extensions", optional, root_extensions_kind)
    ◂ (codes "extras", optional, Any)
    ◂ (codes "extensionsUsed", unless (list end), ListOf Text)
    ◂ (codes "extensionsRequired", unless (list end), ListOf Text)
    ◂ (codes "cameras", unless (list end), ListOf camera_kind)
    ◂ (codes "images", unless (list end), ListOf image_kind)
    ◂ (codes "materials", unless (list end), ListOf material_kind)
    ◂ (codes "meshes", unless (list end), ListOf mesh_kind)
    ◂ (codes "nodes", unless (list end), ListOf node_kind)
    ◂ (codes "samplers", unless (list end), ListOf sampler_kind)
    ◂ (codes "scenes", unless (list end), ListOf scene_kind)
    ◂ (codes "skins", unless (list end), ListOf skin_kind)
    ◂ (codes "textures", unless (list end), ListOf texture_kind)
    ◂ no_rows

abbrev pub root_kind : Kind
root_kind = Object requires_enabled root_rows false

-- ---- the tree of a whole document: its members in the rows' order

unfoldable pub root_members : Root → Trees
root_members v = trees (
    list_tree (λ x. closed_object (accessor_members x)) v.accessors.items
    ∷ list_tree (λ x. closed_object (animation_members x)) v.animations.items
    ∷ closed_object (asset_members v.asset)
    ∷ list_tree (λ x. closed_object (buffer_members x)) v.buffers.items
    ∷ list_tree (λ x. closed_object (view_members x)) v.buffer_views.items
    ∷ tree_or_absent index_tree v.scene
    ∷ tree_or_absent root_extensions v.extensions
    ∷ tree_or_absent any_tree v.extras
    ∷ list_tree text_tree v.extensions_used.items
    ∷ list_tree text_tree v.extensions_required.items
    ∷ list_tree (λ x. closed_object (camera_members x)) v.cameras.items
    ∷ list_tree (λ x. closed_object (image_members x)) v.images.items
    ∷ list_tree (λ x. closed_object (material_members x)) v.materials.items
    ∷ list_tree (λ x. closed_object (mesh_members x)) v.meshes.items
    ∷ list_tree (λ x. closed_object (node_members x)) v.nodes.items
    ∷ list_tree (λ x. closed_object (sampler_members x)) v.samplers.items
    ∷ list_tree (λ x. closed_object (scene_members x)) v.scenes.items
    ∷ list_tree (λ x. closed_object (skin_members x)) v.skins.items
    ∷ list_tree (λ x. closed_object (texture_members x)) v.textures.items
    ∷ [])

abbrev pub root_tree : Root → Tree
root_tree v = closed_object (root_members v)

-- an asset, and every other member left out
abbrev pub root_of_asset : Trees → Trees
root_of_asset asset = put_named (codes "asset") root_rows (closed_object asset) (defaults root_rows)
