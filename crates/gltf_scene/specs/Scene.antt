-- The rows of nodes, scenes and skins (glTF 2.0, sections 5.25, 5.27 and 5.28).
use Rattle.std.specs.Prelude.{true, false, codes, [], ◌∷◌}
use Rattle.gltf_base.specs.Lists.{accessors, cameras, meshes, nodes, skins}
use Rattle.gltf_schema.specs.Tree.{list, end, Tree, Trees, trees, tree_or_absent, numbers, object}
use Rattle.gltf_schema.specs.Kind.{optional, unless, Kind, IndexInto, Number, Numbers, Text, Any, ListOf, Object, Rows, no_rows, ◌◂◌, no_rule}
use Rattle.gltf_schema.specs.Extensions.{kept_extensions}
use Rattle.gltf_scene.specs.Light.{light_of_node_kind, light_of_node_members}
use Rattle.serde_json.specs.Data.{unsigned}
use Rattle.serde_json.specs.View.{members_view}
use Rattle.gltf_schema.specs.Fields.{index_tree, text_tree, real_tree, reals_tree, any_tree, list_tree, closed_object, kept_tree}
use Rattle.gltf_scene.specs.declared.scene.Node.{Node}
use Rattle.gltf_scene.specs.declared.scene.Scene.{Scene}
use Rattle.gltf_scene.specs.declared.scene.UnitQuaternion.{UnitQuaternion}
use Rattle.gltf_scene.specs.declared.skin.Skin.{Skin}
use Rattle.gltf_scene.specs.declared.extensions.scene.Node.{Node as NodeExtensions}

unfoldable pub node_extension_rows : Rows
node_extension_rows =
    (codes "KHR_lights_punctual", optional, light_of_node_kind)
    ◂ no_rows

abbrev pub node_extensions_kind : Kind
node_extensions_kind = Object no_rule node_extension_rows true

unfoldable pub node_rows : Rows
node_rows =
    (codes "camera", optional, IndexInto cameras)
    ◂ (codes "children", optional, ListOf (IndexInto nodes))
    ◂ (codes "extensions", optional, node_extensions_kind)
    ◂ (codes "extras", optional, Any)
    ◂ (codes "matrix", optional, Numbers 16)
    ◂ (codes "mesh", optional, IndexInto meshes)
    ◂ (codes "name", optional, Text)
    ◂ (codes "rotation", optional, Numbers 4)
    ◂ (codes "scale", optional, Numbers 3)
    ◂ (codes "translation", optional, Numbers 3)
    ◂ (codes "skin", optional, IndexInto skins)
    ◂ (codes "weights", optional, ListOf Number)
    ◂ no_rows

abbrev pub node_kind : Kind
node_kind = Object no_rule node_rows false

unfoldable pub scene_rows : Rows
scene_rows =
    (codes "extensions", optional, kept_extensions)
    ◂ (codes "extras", optional, Any)
    ◂ (codes "name", optional, Text)
    ◂ (codes "nodes", unless (list end), ListOf (IndexInto nodes))
    ◂ no_rows

abbrev pub scene_kind : Kind
scene_kind = Object no_rule scene_rows false

unfoldable pub skin_rows : Rows
skin_rows =
    (codes "extensions", optional, kept_extensions)
    ◂ (codes "extras", optional, Any)
    ◂ (codes "inverseBindMatrices", optional, IndexInto accessors)
    -- 5.28.3 requires at least one; a list that is missing is read as an empty one here
    ◂ (codes "joints", unless (list end), ListOf (IndexInto nodes))
    ◂ (codes "name", optional, Text)
    ◂ (codes "skeleton", optional, IndexInto nodes)
    ◂ no_rows

abbrev pub skin_kind : Kind
skin_kind = Object no_rule skin_rows false

-- ---- the members of nodes, scenes and skins, in the rows' order

abbrev pub unit_quaternion_tree : UnitQuaternion → Tree
unit_quaternion_tree q = reals_tree q.0

-- the quaternion that turns nothing
abbrev pub no_rotation : Tree
no_rotation = numbers (unsigned 0 ∷ unsigned 0 ∷ unsigned 0 ∷ unsigned 1 ∷ [])

unfoldable pub node_extension_members : NodeExtensions → Trees
node_extension_members v = trees (
    tree_or_absent (λ x. closed_object (light_of_node_members x)) v.khr_lights_punctual
    ∷ [])

abbrev pub node_extensions : NodeExtensions → Tree
node_extensions e = object (node_extension_members e) (members_view e.others.entries)

unfoldable pub node_members : Node → Trees
node_members v = trees (
    tree_or_absent index_tree v.camera
    ∷ tree_or_absent (λ xs. list_tree index_tree xs.items) v.children
    ∷ tree_or_absent node_extensions v.extensions
    ∷ tree_or_absent any_tree v.extras
    ∷ tree_or_absent reals_tree v.matrix
    ∷ tree_or_absent index_tree v.mesh
    ∷ tree_or_absent text_tree v.name
    ∷ tree_or_absent unit_quaternion_tree v.rotation
    ∷ tree_or_absent reals_tree v.scale
    ∷ tree_or_absent reals_tree v.translation
    ∷ tree_or_absent index_tree v.skin
    ∷ tree_or_absent (λ xs. list_tree real_tree xs.items) v.weights
    ∷ [])

unfoldable pub scene_members : Scene → Trees
scene_members v = trees (
    tree_or_absent kept_tree v.extensions
    ∷ tree_or_absent any_tree v.extras
    ∷ tree_or_absent text_tree v.name
    ∷ list_tree index_tree v.nodes.items
    ∷ [])

unfoldable pub skin_members : Skin → Trees
skin_members v = trees (
    tree_or_absent kept_tree v.extensions
    ∷ tree_or_absent any_tree v.extras
    ∷ tree_or_absent index_tree v.inverse_bind_matrices
    ∷ list_tree index_tree v.joints.items
    ∷ tree_or_absent text_tree v.name
    ∷ tree_or_absent index_tree v.skeleton
    ∷ [])
