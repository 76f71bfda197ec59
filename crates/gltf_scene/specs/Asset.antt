-- The rows of a document's own description (glTF 2.0, section 5.9).
use Rattle.std.specs.Prelude.{false, codes, ℕ, List, [], ◌∷◌}
use Rattle.gltf_schema.specs.Kind.{required, optional, Kind, Text, Object, Rows, ◌◂◌, no_rule}
use Rattle.gltf_schema.specs.Extensions.{dropped_extensions, extensions_and_extras}
use Rattle.gltf_schema.specs.Tree.{Trees, trees, tree_or_absent, absent, text}
use Rattle.gltf_schema.specs.Fields.{text_tree, any_tree, dropped_tree}
use Rattle.gltf_scene.specs.declared.asset.Asset.{Asset}

unfoldable pub asset_rows : Rows
asset_rows =
    (codes "copyright", optional, Text)
    ◂ (codes "generator", optional, Text)
    ◂ (codes "minVersion", optional, Text)
    ◂ (codes "version", required, Text)
    ◂ extensions_and_extras dropped_extensions

abbrev pub asset_kind : Kind
asset_kind = Object no_rule asset_rows false

-- ---- the members of a document's own description, in the rows' order

unfoldable pub asset_members : Asset → Trees
asset_members v = trees (
    tree_or_absent text_tree v.copyright
    ∷ tree_or_absent text_tree v.generator
    ∷ tree_or_absent text_tree v.min_version
    ∷ text_tree v.version
    ∷ tree_or_absent dropped_tree v.extensions
    ∷ tree_or_absent any_tree v.extras
    ∷ [])

-- a version and nothing else
abbrev pub asset_of_version : List ℕ → Trees
asset_of_version version = trees (absent ∷ absent ∷ absent ∷ text version ∷ absent ∷ absent ∷ [])
