-- The textures of a material, each with the name of the member that refers to it (glTF 2.0, sections 5.19 to 5.22, and the
-- documents of the extensions).
use Rattle.std.specs.Prelude.{ℕ, List, [], ◌∷◌, Option, option_map, codes}
use Rattle.std.specs.Option.{option_and_then}
use Rattle.gltf_base.specs.Indexes.{index_number}
use Rattle.gltf_parts.specs.declared.material.Material.{Material}
use Rattle.gltf_parts.specs.declared.texture.Info.{Info}
use Rattle.gltf_parts.specs.declared.extensions.material.Material.{Material as MaterialExtensions}

-- the number of the texture of a reference that may be absent
abbrev pub info_index : Option Info → Option ℕ
info_index reference = option_map (λ r. index_number r.index) reference

abbrev pub diffuse : MaterialExtensions → Option ℕ
diffuse e = option_and_then (λ x. info_index x.diffuse_texture) e.pbr_specular_glossiness

abbrev pub specular_glossiness : MaterialExtensions → Option ℕ
specular_glossiness e = option_and_then (λ x. info_index x.specular_glossiness_texture) e.pbr_specular_glossiness

abbrev pub transmission : MaterialExtensions → Option ℕ
transmission e = option_and_then (λ x. info_index x.transmission_texture) e.transmission

abbrev pub thickness : MaterialExtensions → Option ℕ
thickness e = option_and_then (λ x. info_index x.thickness_texture) e.volume

abbrev pub specular : MaterialExtensions → Option ℕ
specular e = option_and_then (λ x. info_index x.specular_texture) e.specular

abbrev pub specular_color : MaterialExtensions → Option ℕ
specular_color e = option_and_then (λ x. info_index x.specular_color_texture) e.specular

-- each member of a material that refers to a texture, by name, in the order of the table; with the number of the texture if it is there
abbrev pub material_textures : Material → List (List ℕ × Option ℕ)
material_textures m =
    (codes "baseColorTexture", info_index m.pbr_metallic_roughness.base_color_texture)
    ∷ (codes "metallicRoughnessTexture", info_index m.pbr_metallic_roughness.metallic_roughness_texture)
    ∷ (codes "normalTexture", option_map (λ t. index_number t.index) m.normal_texture)
    ∷ (codes "occlusionTexture", option_map (λ t. index_number t.index) m.occlusion_texture)
    ∷ (codes "emissiveTexture", info_index m.emissive_texture)
    ∷ (codes "diffuseTexture", option_and_then diffuse m.extensions)
    ∷ (codes "specularGlossinessTexture", option_and_then specular_glossiness m.extensions)
    ∷ (codes "transmissionTexture", option_and_then transmission m.extensions)
    ∷ (codes "thicknessTexture", option_and_then thickness m.extensions)
    ∷ (codes "specularTexture", option_and_then specular m.extensions)
    ∷ (codes "specularColorTexture", option_and_then specular_color m.extensions)
    ∷ []
