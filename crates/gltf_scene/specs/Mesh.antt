-- The rows of meshes, their primitives and morph targets (glTF 2.0, sections 5.23 and 5.24), and of
-- the extension KHR_materials_variants there.
use Rattle.std.specs.Prelude.{true, false, codes, [], ◌∷◌}
use Rattle.gltf_base.specs.Lists.{accessors, materials}
use Rattle.gltf_base.specs.Choices.{mode_spelling, modes}
use Rattle.gltf_base.specs.declared.choice.Form.TheVariants as form
use Rattle.gltf_base.specs.declared.mesh.Mode.TheVariants as mode
use Rattle.gltf_schema.specs.Tree.{Tree, chosen, Trees, trees, tree_or_absent, whole, object}
use Rattle.gltf_schema.specs.Kind.{required, optional, unless, Kind, IndexInto, U32, Number, Text, Any, Attributes, ListOf, Object, Rows, no_rows, ◌◂◌, no_rule, needs_positions}
use Rattle.gltf_schema.specs.Leaves.{choice_of, checked_tree}
use Rattle.gltf_schema.specs.Extensions.{kept_extensions}
use Rattle.serde_json.specs.View.{members_view}
use Rattle.gltf_schema.specs.Fields.{index_tree, text_tree, real_tree, any_tree, list_tree, attributes_tree, closed_object, kept_tree}
use Rattle.gltf_scene.specs.declared.mesh.Mesh.{Mesh}
use Rattle.gltf_scene.specs.declared.mesh.Primitive.{Primitive}
use Rattle.gltf_scene.specs.declared.mesh.MorphTarget.{MorphTarget}
use Rattle.gltf_scene.specs.declared.extensions.mesh.Primitive.{Primitive as PrimitiveExtensions}
use Rattle.gltf_scene.specs.declared.extensions.mesh.KhrMaterialsVariants.{KhrMaterialsVariants}
use Rattle.gltf_scene.specs.declared.extensions.mesh.Mapping.{Mapping}

abbrev pub mode_kind : Kind
mode_kind = choice_of form.Number mode_spelling modes

-- vertices are drawn as triangles
abbrev pub triangles : Tree
triangles = chosen (mode_spelling mode.Triangles)

-- KHR_materials_variants has an index of a material and indexes of variants here; as in the ported
-- crate they are plain numbers, which are not looked up
unfoldable pub variant_mapping_rows : Rows
variant_mapping_rows =
    (codes "material", required, U32)
    ◂ (codes "variants", required, ListOf U32)
    ◂ no_rows

abbrev pub variant_mapping_kind : Kind
variant_mapping_kind = Object no_rule variant_mapping_rows false

unfoldable pub variant_mappings_rows : Rows
variant_mappings_rows =
    (codes "mappings", required, ListOf variant_mapping_kind)
    ◂ no_rows

abbrev pub variant_mappings_kind : Kind
variant_mappings_kind = Object no_rule variant_mappings_rows false

unfoldable pub primitive_extension_rows : Rows
primitive_extension_rows =
    (codes "KHR_materials_variants", optional, variant_mappings_kind)
    ◂ no_rows

abbrev pub primitive_extensions_kind : Kind
primitive_extensions_kind = Object no_rule primitive_extension_rows true

-- 3.7.2.2 allows more attributes; as in the ported crate only these three are read
unfoldable pub morph_target_rows : Rows
morph_target_rows =
    (codes "POSITION", optional, IndexInto accessors)
    ◂ (codes "NORMAL", optional, IndexInto accessors)
    ◂ (codes "TANGENT", optional, IndexInto accessors)
    ◂ no_rows

abbrev pub morph_target_kind : Kind
morph_target_kind = Object no_rule morph_target_rows false

unfoldable pub primitive_rows : Rows
primitive_rows =
    (codes "attributes", required, Attributes accessors)
    ◂ (codes "extensions", optional, primitive_extensions_kind)
    ◂ (codes "extras", optional, Any)
    ◂ (codes "indices", optional, IndexInto accessors)
    ◂ (codes "material", optional, IndexInto materials)
    ◂ (codes "mode", unless triangles, mode_kind)
    ◂ (codes "targets", optional, ListOf morph_target_kind)
    ◂ no_rows

abbrev pub primitive_kind : Kind
primitive_kind = Object needs_positions primitive_rows false

unfoldable pub mesh_rows : Rows
mesh_rows =
    (codes "extensions", optional, kept_extensions)
    ◂ (codes "extras", optional, Any)
    ◂ (codes "name", optional, Text)
    ◂ (codes "primitives", required, ListOf primitive_kind)
    ◂ (codes "weights", optional, ListOf Number)
    ◂ no_rows

abbrev pub mesh_kind : Kind
mesh_kind = Object no_rule mesh_rows false

-- ---- the members of meshes, their primitives and morph targets, in the rows' order

unfoldable pub variant_mapping_members : Mapping → Trees
variant_mapping_members v = trees (
    whole v.material
    ∷ list_tree whole v.variants.items
    ∷ [])

unfoldable pub variant_mappings_members : KhrMaterialsVariants → Trees
variant_mappings_members v = trees (
    list_tree (λ m. closed_object (variant_mapping_members m)) v.mappings.items
    ∷ [])

unfoldable pub primitive_extension_members : PrimitiveExtensions → Trees
primitive_extension_members v = trees (
    tree_or_absent (λ m. closed_object (variant_mappings_members m)) v.khr_materials_variants
    ∷ [])

abbrev pub primitive_extensions : PrimitiveExtensions → Tree
primitive_extensions e = object (primitive_extension_members e) (members_view e.others.entries)

unfoldable pub morph_target_members : MorphTarget → Trees
morph_target_members v = trees (
    tree_or_absent index_tree v.positions
    ∷ tree_or_absent index_tree v.normals
    ∷ tree_or_absent index_tree v.tangents
    ∷ [])

unfoldable pub primitive_members : Primitive → Trees
primitive_members v = trees (
    attributes_tree v.attributes
    ∷ tree_or_absent primitive_extensions v.extensions
    ∷ tree_or_absent any_tree v.extras
    ∷ tree_or_absent index_tree v.indices
    ∷ tree_or_absent index_tree v.material
    ∷ checked_tree mode_spelling v.mode
    ∷ tree_or_absent (λ ts. list_tree (λ t. closed_object (morph_target_members t)) ts.items) v.targets
    ∷ [])

unfoldable pub mesh_members : Mesh → Trees
mesh_members v = trees (
    tree_or_absent kept_tree v.extensions
    ∷ tree_or_absent any_tree v.extras
    ∷ tree_or_absent text_tree v.name
    ∷ list_tree (λ p. closed_object (primitive_members p)) v.primitives.items
    ∷ tree_or_absent (λ ws. list_tree real_tree ws.items) v.weights
    ∷ [])
