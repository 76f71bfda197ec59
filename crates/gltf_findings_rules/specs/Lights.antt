-- Lights (`KHR_lights_punctual`).
use Rattle.std.specs.Prelude.{ℕ, List, [], ◌∷◌, ◌++◌, Bool, true, false, not, ◌&&◌, is_none, is_some, Option, Some, None}
use Rattle.std.specs.Float.{Float, float_zero, binary64}
use lib.Ieee.{lt, of_bits}
use Rattle.gltf_schema.specs.Floats.{float_or}
use Rattle.gltf_base.specs.declared.validation.Checked.{Checked}
use Rattle.gltf_base.specs.declared.validation.Checked.TheVariants.{Valid}
use Rattle.gltf_base.specs.declared.extensions.scene.khr_lights_punctual.LightType.{LightType}
use Rattle.gltf_base.specs.declared.extensions.scene.khr_lights_punctual.LightType.TheVariants as type
use Rattle.gltf_scene.specs.declared.extensions.scene.khr_lights_punctual.Light.{Light as Punctual}
use Rattle.gltf_scene.specs.declared.extensions.scene.khr_lights_punctual.Spot.{Spot as Cone}
use Rattle.gltf_findings_codes.specs.declared.code.Code.TheVariants.{ValueNotInList, UndefinedProperty, ExtraProperty, KhrLightsPunctualLightSpotAngles}
use Rattle.gltf_findings_codes.specs.declared.name.Name.TheVariants as name
use Rattle.gltf_findings_codes.specs.declared.finding.Object.TheVariants.{Light, Spot}
use Rattle.gltf_findings_codes.specs.declared.finding.Subject.TheVariants.{Object, Member}
use Rattle.gltf_findings_codes.specs.declared.finding.Finding.{Finding}
use Rattle.gltf_findings_codes.specs.declared.range.Range.TheVariants.{Factor, NotNegative, Positive, InnerAngle, OuterAngle}
use Rattle.gltf_findings_codes.specs.Found.{broken, found, findings_if}
use Rattle.gltf_findings_codes.specs.Ranges.{numbers_findings, range_rule}
use Rattle.gltf_findings_codes.specs.Rules.{is_invalid}

abbrev pub is_spot : Checked LightType → Bool
is_spot (Valid type.Spot) = true
is_spot _ = false

abbrev pub is_directional : Checked LightType → Bool
is_directional (Valid type.Directional) = true
is_directional _ = false

-- a directional light or a point light
abbrev pub is_no_spot : Checked LightType → Bool
is_no_spot (Valid type.Directional) = true
is_no_spot (Valid type.Point) = true
is_no_spot _ = false

abbrev pub light_rules : ℕ → Punctual → List (Option Finding)
light_rules n l =
    broken (is_invalid l.type_) ValueNotInList (Member (Light n) name.«Type»)
    ∷ range_rule NotNegative (Light n) name.Intensity l.intensity
    -- "Must be > 0"
    ∷ range_rule Positive (Light n) name.Range l.range
    -- "When a light's type is spot, the spot property on the light is required"
    ∷ broken (is_spot l.type_ && is_none l.spot) UndefinedProperty (Member (Light n) name.Spot)
    -- only a spot light has a cone
    ∷ broken (is_no_spot l.type_ && is_some l.spot) ExtraProperty (Member (Light n) name.Spot)
    -- `range`: "Supported only for point and spot lights"
    ∷ broken (is_directional l.type_ && is_some l.range) ExtraProperty (Member (Light n) name.Range)
    ∷ []

-- an eighth turn: 0.7853981633974483
abbrev pub eighth_turn : Float
eighth_turn = of_bits binary64 0x3fe9_21fb_5444_2d18

-- the outer angle "Must be greater than innerConeAngle"; an angle that isn't there is 0, or an eighth turn
abbrev pub are_spot_angles : Cone → Bool
are_spot_angles s = lt (float_or float_zero s.inner_cone_angle) (float_or eighth_turn s.outer_cone_angle)

abbrev pub spot_rules : ℕ → Cone → List (Option Finding)
spot_rules n s =
    range_rule InnerAngle (Spot n) name.InnerConeAngle s.inner_cone_angle
    ∷ range_rule OuterAngle (Spot n) name.OuterConeAngle s.outer_cone_angle
    ∷ broken (not (are_spot_angles s)) KhrLightsPunctualLightSpotAngles (Object (Spot n))
    ∷ []

abbrev pub light_findings : ℕ → Punctual → List Finding
light_findings n l = found (light_rules n l) ++ numbers_findings (Light n) name.Color Factor l.color ++ findings_if (λ s. found (spot_rules n s)) l.spot
