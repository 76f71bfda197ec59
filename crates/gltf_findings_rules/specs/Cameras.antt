-- Cameras (glTF 2.0, sections 5.12 to 5.14).
use Rattle.std.specs.Prelude.{ℕ, List, [], ◌∷◌, ◌++◌, Bool, true, false, not, ◌&&◌, is_some, Option, Some, None}
use Rattle.std.specs.Float.{Float, float_zero, binary64}
use lib.Ieee.{le, lt, eq, of_bits}
use Rattle.gltf_base.specs.declared.real.Real.{Real}
use Rattle.gltf_schema.specs.Floats.{real_float}
use Rattle.gltf_base.specs.declared.validation.Checked.{Checked}
use Rattle.gltf_base.specs.declared.validation.Checked.TheVariants.{Valid}
use Rattle.gltf_base.specs.declared.camera.CameraType.{CameraType}
use Rattle.gltf_base.specs.declared.camera.CameraType.TheVariants as type
use Rattle.gltf_scene.specs.declared.camera.Camera.{Camera}
use Rattle.gltf_scene.specs.declared.camera.Perspective.{Perspective as WithPerspective}
use Rattle.gltf_scene.specs.declared.camera.Orthographic.{Orthographic as WithoutPerspective}
use Rattle.gltf_findings_codes.specs.declared.code.Code.TheVariants.{ValueNotInList, ValueNotInRange, OneOfMismatch, UndefinedProperty, CameraYfovGequalPi, CameraZfarLequalZnear, CameraXmagYmagZero, CameraXmagYmagNegative}
use Rattle.gltf_findings_codes.specs.declared.name.Name.TheVariants.{Cameras, «Type», Perspective, Orthographic, Yfov, AspectRatio, Znear, Zfar, Xmag, Ymag}
use Rattle.gltf_findings_codes.specs.declared.finding.Object.{Object as Of}
use Rattle.gltf_findings_codes.specs.declared.finding.Object.TheVariants.{Item, Part}
use Rattle.gltf_findings_codes.specs.declared.finding.Subject.TheVariants.{Object, Member}
use Rattle.gltf_findings_codes.specs.declared.finding.Finding.{Finding}
use Rattle.gltf_findings_codes.specs.declared.range.Range.TheVariants.{NotNegative, Positive}
use Rattle.gltf_findings_codes.specs.Found.{broken, found, findings_if}
use Rattle.gltf_findings_codes.specs.Ranges.{is_out, range_rule}
use Rattle.gltf_findings_codes.specs.Rules.{is_invalid}

abbrev pub perspective_at : ℕ → Of
perspective_at n = Part Cameras n Perspective

abbrev pub orthographic_at : ℕ → Of
orthographic_at n = Part Cameras n Orthographic

abbrev pub is_orthographic : Checked CameraType → Bool
is_orthographic (Valid type.Orthographic) = true
is_orthographic _ = false

abbrev pub is_perspective : Checked CameraType → Bool
is_perspective (Valid type.Perspective) = true
is_perspective _ = false

-- a half turn: 3.141592653589793
abbrev pub half_turn : Float
half_turn = of_bits binary64 0x4009_21fb_5444_2d18

abbrev pub is_zero : Real → Bool
is_zero x = eq (real_float x) float_zero

abbrev pub is_negative : Real → Bool
is_negative x = lt (real_float x) float_zero

abbrev pub is_half_turn : Real → Bool
is_half_turn x = le half_turn (real_float x)

abbrev pub is_not_behind : Real → Real → Bool
is_not_behind far near = le (real_float far) (real_float near)

abbrev pub is_some_not_behind : Option Real → Real → Bool
is_some_not_behind None near = false
is_some_not_behind (Some far) near = is_not_behind far near

-- section 5.12: a camera has the projection of its type, and no other
abbrev pub camera_rules : ℕ → Camera → List (Option Finding)
camera_rules n c =
    broken (is_invalid c.type_) ValueNotInList (Member (Item Cameras n) «Type»)
    ∷ broken (is_some c.orthographic && is_some c.perspective) OneOfMismatch (Object (Item Cameras n))
    ∷ broken (is_orthographic c.type_ && not (is_some c.orthographic)) UndefinedProperty (Member (Item Cameras n) Orthographic)
    ∷ broken (is_perspective c.type_ && not (is_some c.perspective)) UndefinedProperty (Member (Item Cameras n) Perspective)
    ∷ []

-- section 5.14
abbrev pub perspective_rules : ℕ → WithPerspective → List (Option Finding)
perspective_rules n p =
    broken (is_out Positive p.yfov) ValueNotInRange (Member (perspective_at n) Yfov)
    -- "This value SHOULD be less than π"
    ∷ broken (is_half_turn p.yfov) CameraYfovGequalPi (Member (perspective_at n) Yfov)
    ∷ range_rule Positive (perspective_at n) AspectRatio p.aspect_ratio
    ∷ broken (is_out Positive p.znear) ValueNotInRange (Member (perspective_at n) Znear)
    ∷ range_rule Positive (perspective_at n) Zfar p.zfar
    -- "zfar MUST be greater than znear"
    ∷ broken (is_some_not_behind p.zfar p.znear) CameraZfarLequalZnear (Object (perspective_at n))
    ∷ []

-- section 5.13
abbrev pub orthographic_rules : ℕ → WithoutPerspective → List (Option Finding)
orthographic_rules n o =
    -- "This value MUST NOT be equal to zero. This value SHOULD NOT be negative."
    broken (is_zero o.xmag) CameraXmagYmagZero (Member (orthographic_at n) Xmag)
    ∷ broken (is_negative o.xmag) CameraXmagYmagNegative (Member (orthographic_at n) Xmag)
    ∷ broken (is_zero o.ymag) CameraXmagYmagZero (Member (orthographic_at n) Ymag)
    ∷ broken (is_negative o.ymag) CameraXmagYmagNegative (Member (orthographic_at n) Ymag)
    ∷ broken (is_out NotNegative o.znear) ValueNotInRange (Member (orthographic_at n) Znear)
    ∷ broken (is_out Positive o.zfar) ValueNotInRange (Member (orthographic_at n) Zfar)
    -- "zfar MUST be greater than znear"
    ∷ broken (is_not_behind o.zfar o.znear) CameraZfarLequalZnear (Object (orthographic_at n))
    ∷ []

abbrev pub camera_findings : ℕ → Camera → List Finding
camera_findings n c =
    found (camera_rules n c)
    ++ findings_if (λ x. found (orthographic_rules n x)) c.orthographic
    ++ findings_if (λ x. found (perspective_rules n x)) c.perspective
