-- The rows of textures, their samplers and the references to them (glTF 2.0, sections 5.26, 5.29
-- and 5.30), and of the extension KHR_texture_transform.
use Rattle.std.specs.Prelude.{ℕ, true, false, codes, [], ◌∷◌}
use Rattle.gltf_base.specs.Lists.{samplers, textures}
use Rattle.gltf_base.specs.TextureChoices.{mag_filter_spelling, mag_filters, min_filter_spelling, min_filters, wrapping_mode_spelling, wrapping_modes}
use Rattle.gltf_base.specs.declared.choice.Form.TheVariants as form
use Rattle.gltf_base.specs.declared.texture.WrappingMode.TheVariants as wrapping_mode
use Rattle.gltf_schema.specs.Tree.{Tree, whole, chosen, index, Trees, trees, tree_or_absent, object}
use Rattle.gltf_schema.specs.Kind.{required, optional, always, unless, sometimes, or_null, Kind, IndexInto, SourceImage, U32, Number, Numbers, Text, Any, Object, Rows, no_rows, ◌◂◌, no_rule}
use Rattle.gltf_schema.specs.Leaves.{choice_of, checked_tree}
use Rattle.gltf_schema.specs.Extensions.{kept_extensions, extensions_and_extras}
use Rattle.serde_json.specs.View.{members_view}
use Rattle.gltf_schema.specs.Fields.{index_tree, text_tree, real_tree, reals_tree, any_tree, closed_object, kept_tree}
use Rattle.gltf_parts.specs.declared.texture.Sampler.{Sampler}
use Rattle.gltf_parts.specs.declared.texture.Texture.{Texture}
use Rattle.gltf_parts.specs.declared.texture.Info.{Info}
use Rattle.gltf_parts.specs.declared.extensions.texture.Info.{Info as InfoExtensions}
use Rattle.gltf_parts.specs.declared.extensions.texture.TextureTransform.{TextureTransform}

abbrev pub mag_filter_kind : Kind
mag_filter_kind = choice_of form.Number mag_filter_spelling mag_filters

abbrev pub min_filter_kind : Kind
min_filter_kind = choice_of form.Number min_filter_spelling min_filters

abbrev pub wrapping_mode_kind : Kind
wrapping_mode_kind = choice_of form.Number wrapping_mode_spelling wrapping_modes

-- past its edges a texture repeats
abbrev pub repeated : Tree
repeated = chosen (wrapping_mode_spelling wrapping_mode.Repeat)

unfoldable pub sampler_rows : Rows
sampler_rows =
    (codes "magFilter", optional, mag_filter_kind)
    ◂ (codes "minFilter", optional, min_filter_kind)
    ◂ (codes "name", optional, Text)
    ◂ (codes "wrapS", always repeated, wrapping_mode_kind)
    ◂ (codes "wrapT", always repeated, wrapping_mode_kind)
    ◂ extensions_and_extras kept_extensions

abbrev pub sampler_kind : Kind
sampler_kind = Object no_rule sampler_rows false

-- the index that means no image, as in the ported crate: 5.29.2 lets `source` be missing
abbrev pub no_image : ℕ
no_image = 4294967295

-- a texture without an image has that index
unfoldable pub texture_rows : Rows
texture_rows =
    (codes "name", optional, Text)
    ◂ (codes "sampler", optional, IndexInto samplers)
    ◂ (codes "extensions", optional, kept_extensions)
    ◂ (codes "source", unless (index no_image), SourceImage)
    ◂ (codes "extras", optional, Any)
    ◂ no_rows

abbrev pub texture_kind : Kind
texture_kind = Object no_rule texture_rows false

unfoldable pub texture_transform_rows : Rows
texture_transform_rows =
    (codes "offset", sometimes, Numbers 2)
    ◂ (codes "rotation", sometimes, Number)
    ◂ (codes "scale", sometimes, Numbers 2)
    -- KHR_texture_transform has no null here; as by the ported crate it is written if the number is
    -- absent
    ◂ (codes "texCoord", or_null, U32)
    ◂ (codes "extras", optional, Any)
    ◂ no_rows

abbrev pub texture_transform_kind : Kind
texture_transform_kind = Object no_rule texture_transform_rows false

unfoldable pub info_extension_rows : Rows
info_extension_rows =
    (codes "KHR_texture_transform", optional, texture_transform_kind)
    ◂ no_rows

abbrev pub info_extensions_kind : Kind
info_extensions_kind = Object no_rule info_extension_rows true

unfoldable pub info_rows : Rows
info_rows =
    (codes "index", required, IndexInto textures)
    ◂ (codes "texCoord", always (whole 0), U32)
    ◂ extensions_and_extras info_extensions_kind

abbrev pub info_kind : Kind
info_kind = Object no_rule info_rows false

-- ---- the members of textures, their samplers and the references to them, in the rows' order

unfoldable pub sampler_members : Sampler → Trees
sampler_members v = trees (
    tree_or_absent (checked_tree mag_filter_spelling) v.mag_filter
    ∷ tree_or_absent (checked_tree min_filter_spelling) v.min_filter
    ∷ tree_or_absent text_tree v.name
    ∷ checked_tree wrapping_mode_spelling v.wrap_s
    ∷ checked_tree wrapping_mode_spelling v.wrap_t
    ∷ tree_or_absent kept_tree v.extensions
    ∷ tree_or_absent any_tree v.extras
    ∷ [])

unfoldable pub texture_members : Texture → Trees
texture_members v = trees (
    tree_or_absent text_tree v.name
    ∷ tree_or_absent index_tree v.sampler
    ∷ tree_or_absent kept_tree v.extensions
    ∷ index_tree v.source
    ∷ tree_or_absent any_tree v.extras
    ∷ [])

unfoldable pub texture_transform_members : TextureTransform → Trees
texture_transform_members v = trees (
    tree_or_absent reals_tree v.offset.0
    ∷ tree_or_absent real_tree v.rotation.0
    ∷ tree_or_absent reals_tree v.scale.0
    ∷ tree_or_absent whole v.tex_coord
    ∷ tree_or_absent any_tree v.extras
    ∷ [])

unfoldable pub info_extension_members : InfoExtensions → Trees
info_extension_members v = trees (
    tree_or_absent (λ t. closed_object (texture_transform_members t)) v.texture_transform
    ∷ [])

abbrev pub info_extensions : InfoExtensions → Tree
info_extensions e = object (info_extension_members e) (members_view e.others.entries)

unfoldable pub info_members : Info → Trees
info_members v = trees (
    index_tree v.index
    ∷ whole v.tex_coord
    ∷ tree_or_absent info_extensions v.extensions
    ∷ tree_or_absent any_tree v.extras
    ∷ [])
