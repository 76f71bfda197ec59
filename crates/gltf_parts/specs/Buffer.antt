-- The rows of buffers and their views (glTF 2.0, sections 5.10 and 5.11).
use Rattle.std.specs.Prelude.{false, codes, [], ◌∷◌}
use Rattle.gltf_base.specs.Lists.{buffers}
use Rattle.gltf_base.specs.Choices.{target_spelling, targets}
use Rattle.gltf_base.specs.declared.choice.Form.TheVariants as form
use Rattle.gltf_schema.specs.Tree.{whole, Tree, Trees, trees, tree_or_absent}
use Rattle.gltf_schema.specs.Kind.{required, optional, always, Kind, IndexInto, U64, Stride, Text, Object, Rows, ◌◂◌, no_rule}
use Rattle.gltf_schema.specs.Leaves.{choice_of, checked_tree}
use Rattle.gltf_schema.specs.Extensions.{kept_extensions, extensions_and_extras}
use Rattle.gltf_schema.specs.Fields.{index_tree, size_tree, text_tree, any_tree, kept_tree}
use Rattle.gltf_parts.specs.declared.buffer.Stride.{Stride as ByteStride}
use Rattle.gltf_parts.specs.declared.buffer.Buffer.{Buffer}
use Rattle.gltf_parts.specs.declared.buffer.View.{View}

abbrev pub target_kind : Kind
target_kind = choice_of form.Number target_spelling targets

unfoldable pub buffer_rows : Rows
buffer_rows =
    -- 5.10.2 requires it; as in the ported crate it is 0 if it is missing
    (codes "byteLength", always (whole 0), U64)
    ◂ (codes "name", optional, Text)
    ◂ (codes "uri", optional, Text)
    ◂ extensions_and_extras kept_extensions

abbrev pub buffer_kind : Kind
buffer_kind = Object no_rule buffer_rows false

unfoldable pub view_rows : Rows
view_rows =
    (codes "buffer", required, IndexInto buffers)
    ◂ (codes "byteLength", required, U64)
    ◂ (codes "byteOffset", optional, U64)
    ◂ (codes "byteStride", optional, Stride)
    ◂ (codes "name", optional, Text)
    ◂ (codes "target", optional, target_kind)
    ◂ extensions_and_extras kept_extensions

abbrev pub view_kind : Kind
view_kind = Object no_rule view_rows false

-- ---- the members of buffers and their views, in the rows' order

abbrev pub stride_tree : ByteStride → Tree
stride_tree s = whole s.0

unfoldable pub buffer_members : Buffer → Trees
buffer_members v = trees (
    size_tree v.byte_length
    ∷ tree_or_absent text_tree v.name
    ∷ tree_or_absent text_tree v.uri
    ∷ tree_or_absent kept_tree v.extensions
    ∷ tree_or_absent any_tree v.extras
    ∷ [])

unfoldable pub view_members : View → Trees
view_members v = trees (
    index_tree v.buffer
    ∷ size_tree v.byte_length
    ∷ tree_or_absent size_tree v.byte_offset
    ∷ tree_or_absent stride_tree v.byte_stride
    ∷ tree_or_absent text_tree v.name
    ∷ tree_or_absent (checked_tree target_spelling) v.target
    ∷ tree_or_absent kept_tree v.extensions
    ∷ tree_or_absent any_tree v.extras
    ∷ [])
