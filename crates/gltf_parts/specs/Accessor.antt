-- The rows of accessors (glTF 2.0, sections 5.1 to 5.4).
use Rattle.std.specs.Prelude.{false, codes, [], ◌∷◌}
use Rattle.gltf_base.specs.Lists.{buffer_views}
use Rattle.gltf_base.specs.Choices.{generic_component_type_spelling, generic_component_types, index_component_type_spelling, index_component_types, accessor_type_spelling, accessor_types}
use Rattle.gltf_base.specs.declared.choice.Form.TheVariants as form
use Rattle.gltf_schema.specs.Tree.{whole, truth, Trees, trees, tree_or_absent}
use Rattle.gltf_schema.specs.Kind.{required, optional, always, unless, Kind, IndexInto, U64, Text, Truth, Any, Object, Rows, ◌◂◌, no_rule, needs_data}
use Rattle.gltf_schema.specs.Leaves.{choice_of, checked_tree}
use Rattle.gltf_schema.specs.Extensions.{kept_extensions, dropped_extensions, extensions_and_extras}
use Rattle.gltf_schema.specs.Fields.{index_tree, size_tree, text_tree, any_tree, closed_object, dropped_tree, kept_tree}
use Rattle.gltf_parts.specs.declared.accessor.Accessor.{Accessor}
use Rattle.gltf_parts.specs.declared.accessor.sparse.Sparse.{Sparse}
use Rattle.gltf_parts.specs.declared.accessor.sparse.Indices.{Indices}
use Rattle.gltf_parts.specs.declared.accessor.sparse.Values.{Values}

abbrev pub component_type_kind : Kind
component_type_kind = choice_of form.Number generic_component_type_spelling generic_component_types

abbrev pub index_component_type_kind : Kind
index_component_type_kind = choice_of form.Number index_component_type_spelling index_component_types

abbrev pub accessor_type_kind : Kind
accessor_type_kind = choice_of form.Name accessor_type_spelling accessor_types

unfoldable pub sparse_indices_rows : Rows
sparse_indices_rows =
    (codes "bufferView", required, IndexInto buffer_views)
    ◂ (codes "byteOffset", always (whole 0), U64)
    ◂ (codes "componentType", required, index_component_type_kind)
    ◂ extensions_and_extras dropped_extensions

abbrev pub sparse_indices_kind : Kind
sparse_indices_kind = Object no_rule sparse_indices_rows false

unfoldable pub sparse_values_rows : Rows
sparse_values_rows =
    (codes "bufferView", required, IndexInto buffer_views)
    ◂ (codes "byteOffset", always (whole 0), U64)
    ◂ extensions_and_extras dropped_extensions

abbrev pub sparse_values_kind : Kind
sparse_values_kind = Object no_rule sparse_values_rows false

unfoldable pub sparse_rows : Rows
sparse_rows =
    (codes "count", required, U64)
    ◂ (codes "indices", required, sparse_indices_kind)
    ◂ (codes "values", required, sparse_values_kind)
    ◂ extensions_and_extras dropped_extensions

abbrev pub sparse_kind : Kind
sparse_kind = Object no_rule sparse_rows false

unfoldable pub accessor_rows : Rows
accessor_rows =
    (codes "bufferView", optional, IndexInto buffer_views)
    ◂ (codes "byteOffset", optional, U64)
    ◂ (codes "count", required, U64)
    ◂ (codes "componentType", required, component_type_kind)
    ◂ (codes "type", required, accessor_type_kind)
    ◂ (codes "min", optional, Any)
    ◂ (codes "max", optional, Any)
    ◂ (codes "name", optional, Text)
    ◂ (codes "normalized", unless (truth false), Truth)
    ◂ (codes "sparse", optional, sparse_kind)
    ◂ extensions_and_extras kept_extensions

abbrev pub accessor_kind : Kind
accessor_kind = Object needs_data accessor_rows false

-- ---- the members of accessors, in the rows' order

unfoldable pub sparse_indices_members : Indices → Trees
sparse_indices_members v = trees (
    index_tree v.buffer_view
    ∷ size_tree v.byte_offset
    ∷ checked_tree index_component_type_spelling v.component_type
    ∷ tree_or_absent dropped_tree v.extensions
    ∷ tree_or_absent any_tree v.extras
    ∷ [])

unfoldable pub sparse_values_members : Values → Trees
sparse_values_members v = trees (
    index_tree v.buffer_view
    ∷ size_tree v.byte_offset
    ∷ tree_or_absent dropped_tree v.extensions
    ∷ tree_or_absent any_tree v.extras
    ∷ [])

unfoldable pub sparse_members : Sparse → Trees
sparse_members v = trees (
    size_tree v.count
    ∷ closed_object (sparse_indices_members v.indices)
    ∷ closed_object (sparse_values_members v.values)
    ∷ tree_or_absent dropped_tree v.extensions
    ∷ tree_or_absent any_tree v.extras
    ∷ [])

unfoldable pub accessor_members : Accessor → Trees
accessor_members v = trees (
    tree_or_absent index_tree v.buffer_view
    ∷ tree_or_absent size_tree v.byte_offset
    ∷ size_tree v.count
    ∷ checked_tree generic_component_type_spelling v.component_type
    ∷ checked_tree accessor_type_spelling v.type_
    ∷ tree_or_absent any_tree v.min
    ∷ tree_or_absent any_tree v.max
    ∷ tree_or_absent text_tree v.name
    ∷ truth v.normalized
    ∷ tree_or_absent (λ s. closed_object (sparse_members s)) v.sparse
    ∷ tree_or_absent kept_tree v.extensions
    ∷ tree_or_absent any_tree v.extras
    ∷ [])
