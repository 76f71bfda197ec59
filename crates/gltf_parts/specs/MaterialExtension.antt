-- The rows of the extensions of materials whose names begin with KHR, each by its own document.
use Rattle.std.specs.Prelude.{true, false, codes, refl, [], ◌∷◌}
use Rattle.gltf_schema.specs.Kind.{optional, sometimes, Kind, Number, Numbers, Any, Object, Rows, no_rows, ◌◂◌, no_rule}
use Rattle.gltf_parts.specs.Texture.{info_kind, info_members}
use Rattle.gltf_schema.specs.Height.{IsFlat}
use Rattle.serde_json.specs.View.{members_view}
use Rattle.gltf_schema.specs.Tree.{Tree, Trees, trees, tree_or_absent, object}
use Rattle.gltf_schema.specs.Fields.{real_tree, reals_tree, any_tree, closed_object}
use Rattle.gltf_parts.specs.declared.extensions.material.Material.{Material as MaterialExtensions}
use Rattle.gltf_parts.specs.declared.extensions.material.pbr_specular_glossiness.PbrSpecularGlossiness.{PbrSpecularGlossiness}
use Rattle.gltf_parts.specs.declared.extensions.material.unlit.Unlit.{Unlit}
use Rattle.gltf_parts.specs.declared.extensions.material.transmission.Transmission.{Transmission}
use Rattle.gltf_parts.specs.declared.extensions.material.volume.Volume.{Volume}
use Rattle.gltf_parts.specs.declared.extensions.material.specular.Specular.{Specular}
use Rattle.gltf_parts.specs.declared.extensions.material.ior.Ior.{Ior}
use Rattle.gltf_parts.specs.declared.extensions.material.emissive_strength.EmissiveStrength.{EmissiveStrength}

unfoldable pub pbr_specular_glossiness_rows : Rows
pbr_specular_glossiness_rows =
    (codes "diffuseFactor", sometimes, Numbers 4)
    ◂ (codes "diffuseTexture", optional, info_kind)
    ◂ (codes "specularFactor", sometimes, Numbers 3)
    ◂ (codes "glossinessFactor", sometimes, Number)
    ◂ (codes "specularGlossinessTexture", optional, info_kind)
    ◂ (codes "extras", optional, Any)
    ◂ no_rows

-- members that no row names are kept here too
abbrev pub pbr_specular_glossiness_kind : Kind
pbr_specular_glossiness_kind = Object no_rule pbr_specular_glossiness_rows true

abbrev pub unlit_kind : Kind
unlit_kind = Object no_rule no_rows false

unfoldable pub transmission_rows : Rows
transmission_rows =
    (codes "transmissionFactor", sometimes, Number)
    ◂ (codes "transmissionTexture", optional, info_kind)
    ◂ (codes "extras", optional, Any)
    ◂ no_rows

abbrev pub transmission_kind : Kind
transmission_kind = Object no_rule transmission_rows false

unfoldable pub volume_rows : Rows
volume_rows =
    (codes "thicknessFactor", sometimes, Number)
    ◂ (codes "thicknessTexture", optional, info_kind)
    ◂ (codes "attenuationDistance", sometimes, Number)
    ◂ (codes "attenuationColor", sometimes, Numbers 3)
    ◂ (codes "extras", optional, Any)
    ◂ no_rows

abbrev pub volume_kind : Kind
volume_kind = Object no_rule volume_rows false

unfoldable pub specular_rows : Rows
specular_rows =
    (codes "specularFactor", sometimes, Number)
    ◂ (codes "specularTexture", optional, info_kind)
    ◂ (codes "specularColorFactor", sometimes, Numbers 3)
    ◂ (codes "specularColorTexture", optional, info_kind)
    ◂ (codes "extras", optional, Any)
    ◂ no_rows

abbrev pub specular_kind : Kind
specular_kind = Object no_rule specular_rows false

unfoldable pub ior_rows : Rows
ior_rows =
    (codes "ior", sometimes, Number)
    ◂ (codes "extras", optional, Any)
    ◂ no_rows

abbrev pub ior_kind : Kind
ior_kind = Object no_rule ior_rows false

unfoldable pub emissive_strength_rows : Rows
emissive_strength_rows =
    (codes "emissiveStrength", sometimes, Number)
    ◂ no_rows

abbrev pub emissive_strength_kind : Kind
emissive_strength_kind = Object no_rule emissive_strength_rows false

unfoldable pub material_extension_rows : Rows
material_extension_rows =
    (codes "KHR_materials_pbrSpecularGlossiness", optional, pbr_specular_glossiness_kind)
    ◂ (codes "KHR_materials_unlit", optional, unlit_kind)
    ◂ (codes "KHR_materials_transmission", optional, transmission_kind)
    ◂ (codes "KHR_materials_volume", optional, volume_kind)
    ◂ (codes "KHR_materials_specular", optional, specular_kind)
    ◂ (codes "KHR_materials_ior", optional, ior_kind)
    ◂ (codes "KHR_materials_emissive_strength", optional, emissive_strength_kind)
    ◂ no_rows

abbrev pub material_extensions_kind : Kind
material_extensions_kind = Object no_rule material_extension_rows true

-- ---- the members of the extensions of materials, in the rows' order

unfoldable pub pbr_specular_glossiness_members : PbrSpecularGlossiness → Trees
pbr_specular_glossiness_members v = trees (
    tree_or_absent reals_tree v.diffuse_factor.0
    ∷ tree_or_absent (λ t. closed_object (info_members t)) v.diffuse_texture
    ∷ tree_or_absent reals_tree v.specular_factor.0
    ∷ tree_or_absent real_tree v.glossiness_factor.0
    ∷ tree_or_absent (λ t. closed_object (info_members t)) v.specular_glossiness_texture
    ∷ tree_or_absent any_tree v.extras
    ∷ [])

abbrev pub pbr_specular_glossiness_tree : PbrSpecularGlossiness → Tree
pbr_specular_glossiness_tree v = object (pbr_specular_glossiness_members v) (members_view v.others.entries)

abbrev pub unlit_tree : Unlit → Tree
unlit_tree v = closed_object (trees [])

unfoldable pub transmission_members : Transmission → Trees
transmission_members v = trees (
    tree_or_absent real_tree v.transmission_factor.0
    ∷ tree_or_absent (λ t. closed_object (info_members t)) v.transmission_texture
    ∷ tree_or_absent any_tree v.extras
    ∷ [])

unfoldable pub volume_members : Volume → Trees
volume_members v = trees (
    tree_or_absent real_tree v.thickness_factor.0
    ∷ tree_or_absent (λ t. closed_object (info_members t)) v.thickness_texture
    ∷ tree_or_absent real_tree v.attenuation_distance.0
    ∷ tree_or_absent reals_tree v.attenuation_color.0
    ∷ tree_or_absent any_tree v.extras
    ∷ [])

unfoldable pub specular_members : Specular → Trees
specular_members v = trees (
    tree_or_absent real_tree v.specular_factor.0
    ∷ tree_or_absent (λ t. closed_object (info_members t)) v.specular_texture
    ∷ tree_or_absent reals_tree v.specular_color_factor.0
    ∷ tree_or_absent (λ t. closed_object (info_members t)) v.specular_color_texture
    ∷ tree_or_absent any_tree v.extras
    ∷ [])

unfoldable pub ior_members : Ior → Trees
ior_members v = trees (
    tree_or_absent real_tree v.ior.0
    ∷ tree_or_absent any_tree v.extras
    ∷ [])

unfoldable pub emissive_strength_members : EmissiveStrength → Trees
emissive_strength_members v = trees (
    tree_or_absent real_tree v.emissive_strength.0
    ∷ [])

unfoldable pub material_extension_members : MaterialExtensions → Trees
material_extension_members v = trees (
    tree_or_absent pbr_specular_glossiness_tree v.pbr_specular_glossiness
    ∷ tree_or_absent unlit_tree v.unlit
    ∷ tree_or_absent (λ t. closed_object (transmission_members t)) v.transmission
    ∷ tree_or_absent (λ t. closed_object (volume_members t)) v.volume
    ∷ tree_or_absent (λ s. closed_object (specular_members s)) v.specular
    ∷ tree_or_absent (λ i. closed_object (ior_members i)) v.ior
    ∷ tree_or_absent (λ s. closed_object (emissive_strength_members s)) v.emissive_strength
    ∷ [])

-- ---- how far down something can be wrong

pub unlit_height : IsFlat unlit_kind
unlit_height = (refl, refl)
