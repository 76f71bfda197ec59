-- Extensions of materials. Each number that isn't there is the default, which is within the range.
use Rattle.std.specs.Prelude.{ℕ, List, [], ◌∷◌, ◌++◌, Bool, false, not, is_some, Option, Some, None}
use Rattle.gltf_parts.specs.declared.texture.Info.{Info}
use Rattle.gltf_parts.specs.declared.material.Material.{Material}
use Rattle.gltf_parts.specs.declared.extensions.material.Material.{Material as Extension}
use Rattle.gltf_parts.specs.declared.extensions.material.transmission.Transmission.{Transmission}
use Rattle.gltf_parts.specs.declared.extensions.material.ior.Ior.{Ior as Refracting}
use Rattle.gltf_parts.specs.declared.extensions.material.emissive_strength.EmissiveStrength.{EmissiveStrength as Emissive}
use Rattle.gltf_parts.specs.declared.extensions.material.volume.Volume.{Volume}
use Rattle.gltf_parts.specs.declared.extensions.material.specular.Specular.{Specular}
use Rattle.gltf_parts.specs.declared.extensions.material.pbr_specular_glossiness.PbrSpecularGlossiness.{PbrSpecularGlossiness as Glossiness}
use Rattle.gltf_findings_codes.specs.declared.code.Code.TheVariants.{UnresolvedReference, KhrMaterialsVolumeNoTransmission, KhrMaterialsVolumeDoubleSided}
use Rattle.gltf_findings_codes.specs.declared.name.Name.{Name}
use Rattle.gltf_findings_codes.specs.declared.name.Name.TheVariants.{Materials, Extensions, Index, KhrMaterialsTransmission, KhrMaterialsIor, KhrMaterialsEmissiveStrength, KhrMaterialsVolume, KhrMaterialsSpecular, KhrMaterialsPbrSpecularGlossiness, TransmissionFactor, TransmissionTexture, Ior, EmissiveStrength, ThicknessFactor, ThicknessTexture, AttenuationDistance, AttenuationColor, SpecularFactor, SpecularTexture, SpecularColorFactor, SpecularColorTexture, DiffuseFactor, DiffuseTexture, GlossinessFactor, SpecularGlossinessTexture}
use Rattle.gltf_findings_codes.specs.declared.finding.Object.{Object as Of}
use Rattle.gltf_findings_codes.specs.declared.finding.Object.TheVariants.{Inner, Extended}
use Rattle.gltf_findings_codes.specs.declared.finding.Subject.TheVariants.{Object, Member}
use Rattle.gltf_findings_codes.specs.declared.finding.Finding.{Finding}
use Rattle.gltf_findings_codes.specs.declared.range.Range.TheVariants.{Factor, NotNegative, Positive, RefractionIndex}
use Rattle.gltf_findings_codes.specs.Found.{broken, found, findings_if}
use Rattle.gltf_findings_codes.specs.Ranges.{numbers_findings, range_rule}
use Rattle.gltf_findings_codes.specs.Rules.{is_unresolved}

abbrev pub is_info_unresolved : ℕ → Option Info → Bool
is_info_unresolved textures None = false
is_info_unresolved textures (Some t) = is_unresolved textures t.index

-- the rule for a texture that an object may have
abbrev pub texture_rule : ℕ → Of → Option Info → Option Finding
texture_rule textures object info = broken (is_info_unresolved textures info) UnresolvedReference (Member object Index)

-- the extension of a material
abbrev pub extension_at : ℕ → Name → Of
extension_at n extension = Inner Materials n Extensions extension

abbrev pub transmission_rules : ℕ → ℕ → Transmission → List (Option Finding)
transmission_rules textures n x =
    range_rule Factor (extension_at n KhrMaterialsTransmission) TransmissionFactor x.transmission_factor.0
    ∷ texture_rule textures (Extended Materials n KhrMaterialsTransmission TransmissionTexture) x.transmission_texture
    ∷ []

-- "Valid values ... greater than or equal to one", or 0
abbrev pub ior_rules : ℕ → Refracting → List (Option Finding)
ior_rules n x = range_rule RefractionIndex (extension_at n KhrMaterialsIor) Ior x.ior.0 ∷ []

abbrev pub emissive_strength_rules : ℕ → Emissive → List (Option Finding)
emissive_strength_rules n x = range_rule NotNegative (extension_at n KhrMaterialsEmissiveStrength) EmissiveStrength x.emissive_strength.0 ∷ []

-- a volume of a material that may be double-sided, and may transmit light
abbrev pub volume_rules : ℕ → Bool → Bool → ℕ → Volume → List (Option Finding)
volume_rules textures is_double_sided transmits n x =
    range_rule NotNegative (extension_at n KhrMaterialsVolume) ThicknessFactor x.thickness_factor.0
    ∷ range_rule Positive (extension_at n KhrMaterialsVolume) AttenuationDistance x.attenuation_distance.0
    ∷ texture_rule textures (Extended Materials n KhrMaterialsVolume ThicknessTexture) x.thickness_texture
    ∷ broken (not transmits) KhrMaterialsVolumeNoTransmission (Object (extension_at n KhrMaterialsVolume))
    ∷ broken is_double_sided KhrMaterialsVolumeDoubleSided (Object (extension_at n KhrMaterialsVolume))
    ∷ []

abbrev pub volume_findings : ℕ → Bool → Bool → ℕ → Volume → List Finding
volume_findings textures is_double_sided transmits n x = numbers_findings (extension_at n KhrMaterialsVolume) AttenuationColor Factor x.attenuation_color.0 ++ found (volume_rules textures is_double_sided transmits n x)

abbrev pub specular_rules : ℕ → ℕ → Specular → List (Option Finding)
specular_rules textures n x =
    range_rule Factor (extension_at n KhrMaterialsSpecular) SpecularFactor x.specular_factor.0
    ∷ texture_rule textures (Extended Materials n KhrMaterialsSpecular SpecularTexture) x.specular_texture
    ∷ texture_rule textures (Extended Materials n KhrMaterialsSpecular SpecularColorTexture) x.specular_color_texture
    ∷ []

abbrev pub specular_findings : ℕ → ℕ → Specular → List Finding
specular_findings textures n x = numbers_findings (extension_at n KhrMaterialsSpecular) SpecularColorFactor NotNegative x.specular_color_factor.0 ++ found (specular_rules textures n x)

abbrev pub glossiness_rules : ℕ → ℕ → Glossiness → List (Option Finding)
glossiness_rules textures n x =
    range_rule Factor (extension_at n KhrMaterialsPbrSpecularGlossiness) GlossinessFactor x.glossiness_factor.0
    ∷ texture_rule textures (Extended Materials n KhrMaterialsPbrSpecularGlossiness DiffuseTexture) x.diffuse_texture
    ∷ texture_rule textures (Extended Materials n KhrMaterialsPbrSpecularGlossiness SpecularGlossinessTexture) x.specular_glossiness_texture
    ∷ []

abbrev pub glossiness_findings : ℕ → ℕ → Glossiness → List Finding
glossiness_findings textures n x =
    numbers_findings (extension_at n KhrMaterialsPbrSpecularGlossiness) DiffuseFactor Factor x.diffuse_factor.0
    ++ numbers_findings (extension_at n KhrMaterialsPbrSpecularGlossiness) SpecularFactor Factor x.specular_factor.0
    ++ found (glossiness_rules textures n x)

abbrev pub extension_findings : ℕ → Bool → Bool → ℕ → Extension → List Finding
extension_findings textures is_double_sided transmits n e =
    findings_if (glossiness_findings textures n) e.pbr_specular_glossiness
    ++ findings_if (λ x. found (transmission_rules textures n x)) e.transmission
    ++ findings_if (volume_findings textures is_double_sided transmits n) e.volume
    ++ findings_if (specular_findings textures n) e.specular
    ++ findings_if (λ x. found (ior_rules n x)) e.ior
    ++ findings_if (λ x. found (emissive_strength_rules n x)) e.emissive_strength

-- the extensions of a material
abbrev pub shading_findings : ℕ → ℕ → Material → List Finding
shading_findings textures n m = findings_if (λ e. extension_findings textures m.double_sided (is_some e.transmission) n e) m.extensions
