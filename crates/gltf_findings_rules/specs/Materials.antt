-- Materials (glTF 2.0, sections 5.19 to 5.22).
use Rattle.std.specs.Prelude.{ℕ, List, [], ◌∷◌, ◌++◌, Bool, true, false, not, ◌&&◌, is_some, Option, Some, None}
use Rattle.gltf_base.specs.declared.real.Real.{Real}
use Rattle.gltf_parts.specs.declared.extensions.material.Material.{Material as Extension}
use Rattle.gltf_base.specs.declared.validation.Checked.{Checked}
use Rattle.gltf_base.specs.declared.validation.Checked.TheVariants.{Valid}
use Rattle.gltf_base.specs.declared.material.AlphaMode.{AlphaMode as Mode}
use Rattle.gltf_base.specs.declared.material.AlphaMode.TheVariants.{Mask}
use Rattle.gltf_parts.specs.declared.material.Material.{Material}
use Rattle.gltf_parts.specs.declared.material.AlphaCutoff.{AlphaCutoff as Cutoff}
use Rattle.gltf_parts.specs.declared.material.NormalTexture.{NormalTexture as Normal}
use Rattle.gltf_parts.specs.declared.material.OcclusionTexture.{OcclusionTexture as Occlusion}
use Rattle.gltf_parts.specs.declared.material.PbrMetallicRoughness.{PbrMetallicRoughness as Metallic}
use Rattle.gltf_findings_codes.specs.declared.code.Code.TheVariants.{UnresolvedReference, ValueNotInRange, ValueNotInList, MaterialAlphaCutoffInvalidMode, KhrMaterialsEmissiveStrengthZeroFactor}
use Rattle.gltf_findings_codes.specs.declared.name.Name.TheVariants.{Materials, Extensions, KhrMaterialsEmissiveStrength, AlphaMode, AlphaCutoff, NormalTexture, OcclusionTexture, EmissiveTexture, EmissiveFactor, Index, Strength, PbrMetallicRoughness, BaseColorFactor, BaseColorTexture, MetallicFactor, RoughnessFactor, MetallicRoughnessTexture}
use Rattle.gltf_findings_codes.specs.declared.finding.Object.{Object}
use Rattle.gltf_findings_codes.specs.declared.finding.Object.TheVariants.{Item, Part, Inner}
use Rattle.gltf_findings_codes.specs.declared.finding.Subject.TheVariants.{Object as Of, Member}
use Rattle.gltf_findings_codes.specs.declared.finding.Finding.{Finding}
use Rattle.gltf_findings_codes.specs.declared.range.Range.TheVariants.{Factor, NotNegative}
use Rattle.gltf_findings_codes.specs.Found.{broken, found}
use Rattle.gltf_findings_codes.specs.Ranges.{is_out, is_some_out, numbers_findings, range_rule}
use Rattle.gltf_findings_codes.specs.Rules.{is_invalid, is_unresolved}
use Rattle.gltf_findings_rules.specs.Cameras.{is_zero}
use Rattle.gltf_findings_rules.specs.Shading.{texture_rule, shading_findings}

abbrev pub material_at : ℕ → Object
material_at n = Item Materials n

abbrev pub part_at : ℕ → Object
part_at n = Part Materials n PbrMetallicRoughness

-- section 5.19.9: the mode is MASK
abbrev pub is_masked : Checked Mode → Bool
is_masked (Valid Mask) = true
is_masked _ = false

-- section 5.19.10: an alpha cutoff is at least 0
abbrev pub is_cutoff_out : Option Cutoff → Bool
is_cutoff_out None = false
is_cutoff_out (Some c) = is_out NotNegative c.0

abbrev pub is_normal_unresolved : ℕ → Option Normal → Bool
is_normal_unresolved textures None = false
is_normal_unresolved textures (Some t) = is_unresolved textures t.index

abbrev pub is_occlusion_unresolved : ℕ → Option Occlusion → Bool
is_occlusion_unresolved textures None = false
is_occlusion_unresolved textures (Some t) = is_unresolved textures t.index

-- section 5.21.3: a strength is from 0 to 1
abbrev pub is_strength_out : Option Occlusion → Bool
is_strength_out None = false
is_strength_out (Some t) = is_some_out Factor t.strength.0

-- a material among so many textures
abbrev pub has_strength : Option Extension → Bool
has_strength None = false
has_strength (Some e) = is_some e.emissive_strength

abbrev pub are_zeros : List Real → Bool
are_zeros [] = true
are_zeros (x ∷ xs) = is_zero x && are_zeros xs

abbrev pub is_black : Option (List Real) → Bool
is_black None = true
is_black (Some xs) = are_zeros xs

abbrev pub material_rules : ℕ → ℕ → Material → List (Option Finding)
material_rules textures n m =
    broken (is_invalid m.alpha_mode) ValueNotInList (Member (material_at n) AlphaMode)
    ∷ broken (is_cutoff_out m.alpha_cutoff) ValueNotInRange (Member (material_at n) AlphaCutoff)
    -- section 5.19.10: "This value is ignored for other alpha modes"
    ∷ broken (is_some m.alpha_cutoff && not (is_masked m.alpha_mode)) MaterialAlphaCutoffInvalidMode (Member (material_at n) AlphaCutoff)
    ∷ broken (is_normal_unresolved textures m.normal_texture) UnresolvedReference (Member (Part Materials n NormalTexture) Index)
    ∷ broken (is_occlusion_unresolved textures m.occlusion_texture) UnresolvedReference (Member (Part Materials n OcclusionTexture) Index)
    ∷ broken (is_strength_out m.occlusion_texture) ValueNotInRange (Member (Part Materials n OcclusionTexture) Strength)
    ∷ texture_rule textures (Part Materials n EmissiveTexture) m.emissive_texture
    -- the strength is a factor of the emissive factor, which is black if it isn't there
    ∷ broken (has_strength m.extensions && is_black m.emissive_factor.0) KhrMaterialsEmissiveStrengthZeroFactor (Of (Inner Materials n Extensions KhrMaterialsEmissiveStrength))
    ∷ []

-- section 5.22: the metallic-roughness model
abbrev pub metallic_rules : ℕ → ℕ → Metallic → List (Option Finding)
metallic_rules textures n p =
    range_rule Factor (part_at n) MetallicFactor p.metallic_factor.0
    ∷ range_rule Factor (part_at n) RoughnessFactor p.roughness_factor.0
    ∷ texture_rule textures (Inner Materials n PbrMetallicRoughness BaseColorTexture) p.base_color_texture
    ∷ texture_rule textures (Inner Materials n PbrMetallicRoughness MetallicRoughnessTexture) p.metallic_roughness_texture
    ∷ []

abbrev pub metallic_findings : ℕ → ℕ → Metallic → List Finding
metallic_findings textures n p = numbers_findings (part_at n) BaseColorFactor Factor p.base_color_factor.0 ++ found (metallic_rules textures n p)

abbrev pub material_findings : ℕ → ℕ → Material → List Finding
material_findings textures n m =
    found (material_rules textures n m)
    ++ numbers_findings (material_at n) EmissiveFactor Factor m.emissive_factor.0
    ++ metallic_findings textures n m.pbr_metallic_roughness
    ++ shading_findings textures n m
