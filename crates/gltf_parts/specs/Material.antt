-- The rows of materials and of their references to textures (glTF 2.0, sections 5.19 to 5.22).
use Rattle.std.specs.Prelude.{false, codes, [], ◌∷◌}
use Rattle.gltf_base.specs.Lists.{textures}
use Rattle.gltf_base.specs.SceneChoices.{alpha_mode_spelling, alpha_modes}
use Rattle.gltf_base.specs.declared.choice.Form.TheVariants as form
use Rattle.gltf_base.specs.declared.material.AlphaMode.TheVariants as alpha_mode
use Rattle.gltf_schema.specs.Tree.{Tree, whole, truth, chosen, Trees, trees, tree_or_absent, object}
use Rattle.gltf_schema.specs.Kind.{required, optional, always, sometimes, Kind, IndexInto, U32, Number, Numbers, Text, Truth, Object, Rows, ◌◂◌, no_rule}
use Rattle.gltf_schema.specs.Leaves.{choice_of, checked_tree}
use Rattle.gltf_schema.specs.Fields.{closed_object, index_tree, text_tree, real_tree, reals_tree, any_tree, kept_tree}
use Rattle.gltf_schema.specs.Defaults.{defaults}
use Rattle.gltf_schema.specs.Extensions.{kept_extensions, extensions_and_extras}
use Rattle.gltf_parts.specs.Texture.{info_kind, info_members}
use Rattle.gltf_parts.specs.MaterialExtension.{material_extensions_kind, material_extension_members}
use Rattle.serde_json.specs.View.{members_view}
use Rattle.gltf_parts.specs.declared.material.AlphaCutoff.{AlphaCutoff}
use Rattle.gltf_parts.specs.declared.material.Material.{Material}
use Rattle.gltf_parts.specs.declared.material.PbrMetallicRoughness.{PbrMetallicRoughness}
use Rattle.gltf_parts.specs.declared.material.NormalTexture.{NormalTexture}
use Rattle.gltf_parts.specs.declared.material.OcclusionTexture.{OcclusionTexture}
use Rattle.gltf_parts.specs.declared.extensions.material.Material.{Material as MaterialExtensions}

abbrev pub alpha_mode_kind : Kind
alpha_mode_kind = choice_of form.Name alpha_mode_spelling alpha_modes

-- the alpha of a material is not used
abbrev pub opaque : Tree
opaque = chosen (alpha_mode_spelling alpha_mode.Opaque)

unfoldable pub pbr_metallic_roughness_rows : Rows
pbr_metallic_roughness_rows =
    (codes "baseColorFactor", sometimes, Numbers 4)
    ◂ (codes "baseColorTexture", optional, info_kind)
    ◂ (codes "metallicFactor", sometimes, Number)
    ◂ (codes "roughnessFactor", sometimes, Number)
    ◂ (codes "metallicRoughnessTexture", optional, info_kind)
    ◂ extensions_and_extras kept_extensions

abbrev pub pbr_metallic_roughness_kind : Kind
pbr_metallic_roughness_kind = Object no_rule pbr_metallic_roughness_rows false

unfoldable pub normal_texture_rows : Rows
normal_texture_rows =
    (codes "index", required, IndexInto textures)
    ◂ (codes "scale", sometimes, Number)
    ◂ (codes "texCoord", always (whole 0), U32)
    ◂ extensions_and_extras kept_extensions

abbrev pub normal_texture_kind : Kind
normal_texture_kind = Object no_rule normal_texture_rows false

unfoldable pub occlusion_texture_rows : Rows
occlusion_texture_rows =
    (codes "index", required, IndexInto textures)
    ◂ (codes "strength", sometimes, Number)
    ◂ (codes "texCoord", always (whole 0), U32)
    ◂ extensions_and_extras kept_extensions

abbrev pub occlusion_texture_kind : Kind
occlusion_texture_kind = Object no_rule occlusion_texture_rows false

unfoldable pub material_rows : Rows
material_rows =
    (codes "alphaCutoff", optional, Number)
    ◂ (codes "alphaMode", always opaque, alpha_mode_kind)
    ◂ (codes "doubleSided", always (truth false), Truth)
    ◂ (codes "name", optional, Text)
    ◂ (codes "pbrMetallicRoughness", always (closed_object (defaults pbr_metallic_roughness_rows)), pbr_metallic_roughness_kind)
    ◂ (codes "normalTexture", optional, normal_texture_kind)
    ◂ (codes "occlusionTexture", optional, occlusion_texture_kind)
    ◂ (codes "emissiveTexture", optional, info_kind)
    ◂ (codes "emissiveFactor", sometimes, Numbers 3)
    ◂ extensions_and_extras material_extensions_kind

abbrev pub material_kind : Kind
material_kind = Object no_rule material_rows false

-- ---- the members of materials and of their references to textures, in the rows' order

abbrev pub alpha_cutoff_tree : AlphaCutoff → Tree
alpha_cutoff_tree c = real_tree c.0

abbrev pub material_extensions : MaterialExtensions → Tree
material_extensions e = object (material_extension_members e) (members_view e.others.entries)

unfoldable pub pbr_metallic_roughness_members : PbrMetallicRoughness → Trees
pbr_metallic_roughness_members v = trees (
    tree_or_absent reals_tree v.base_color_factor.0
    ∷ tree_or_absent (λ t. closed_object (info_members t)) v.base_color_texture
    ∷ tree_or_absent real_tree v.metallic_factor.0
    ∷ tree_or_absent real_tree v.roughness_factor.0
    ∷ tree_or_absent (λ t. closed_object (info_members t)) v.metallic_roughness_texture
    ∷ tree_or_absent kept_tree v.extensions
    ∷ tree_or_absent any_tree v.extras
    ∷ [])

unfoldable pub normal_texture_members : NormalTexture → Trees
normal_texture_members v = trees (
    index_tree v.index
    ∷ tree_or_absent real_tree v.scale
    ∷ whole v.tex_coord
    ∷ tree_or_absent kept_tree v.extensions
    ∷ tree_or_absent any_tree v.extras
    ∷ [])

unfoldable pub occlusion_texture_members : OcclusionTexture → Trees
occlusion_texture_members v = trees (
    index_tree v.index
    ∷ tree_or_absent real_tree v.strength.0
    ∷ whole v.tex_coord
    ∷ tree_or_absent kept_tree v.extensions
    ∷ tree_or_absent any_tree v.extras
    ∷ [])

unfoldable pub material_members : Material → Trees
material_members v = trees (
    tree_or_absent alpha_cutoff_tree v.alpha_cutoff
    ∷ checked_tree alpha_mode_spelling v.alpha_mode
    ∷ truth v.double_sided
    ∷ tree_or_absent text_tree v.name
    ∷ closed_object (pbr_metallic_roughness_members v.pbr_metallic_roughness)
    ∷ tree_or_absent (λ t. closed_object (normal_texture_members t)) v.normal_texture
    ∷ tree_or_absent (λ t. closed_object (occlusion_texture_members t)) v.occlusion_texture
    ∷ tree_or_absent (λ t. closed_object (info_members t)) v.emissive_texture
    ∷ tree_or_absent reals_tree v.emissive_factor.0
    ∷ tree_or_absent material_extensions v.extensions
    ∷ tree_or_absent any_tree v.extras
    ∷ [])
