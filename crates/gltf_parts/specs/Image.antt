-- The rows of images (glTF 2.0, section 5.18).
use Rattle.std.specs.Prelude.{false, codes, [], ◌∷◌}
use Rattle.gltf_base.specs.Lists.{buffer_views}
use Rattle.gltf_schema.specs.Kind.{optional, Kind, IndexInto, Text, Object, Rows, ◌◂◌, no_rule}
use Rattle.gltf_schema.specs.Extensions.{kept_extensions, extensions_and_extras}
use Rattle.gltf_schema.specs.Tree.{Tree, Trees, trees, tree_or_absent}
use Rattle.gltf_schema.specs.Fields.{index_tree, text_tree, any_tree, kept_tree}
use Rattle.gltf_parts.specs.declared.image.MimeType.{MimeType}
use Rattle.gltf_parts.specs.declared.image.Image.{Image}

unfoldable pub image_rows : Rows
image_rows =
    (codes "bufferView", optional, IndexInto buffer_views)
    ◂ (codes "mimeType", optional, Text)
    ◂ (codes "name", optional, Text)
    ◂ (codes "uri", optional, Text)
    ◂ extensions_and_extras kept_extensions

abbrev pub image_kind : Kind
image_kind = Object no_rule image_rows false

-- ---- the members of images, in the rows' order

abbrev pub mime_type_tree : MimeType → Tree
mime_type_tree m = text_tree m.0

unfoldable pub image_members : Image → Trees
image_members v = trees (
    tree_or_absent index_tree v.buffer_view
    ∷ tree_or_absent mime_type_tree v.mime_type
    ∷ tree_or_absent text_tree v.name
    ∷ tree_or_absent text_tree v.uri
    ∷ tree_or_absent kept_tree v.extensions
    ∷ tree_or_absent any_tree v.extras
    ∷ [])
