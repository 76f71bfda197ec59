-- Ranges of numbers.
use Rattle.std.specs.Prelude.{ℕ, List, [], ◌∷◌, Bool, false, not, ◌&&◌, ◌||◌, Option, Some, None}
use Rattle.std.specs.Float.{Float, float_zero, float_one, binary64}
use lib.Ieee.{le, lt, eq, neg, of_bits}
use Rattle.gltf_base.specs.declared.real.Real.{Real}
use Rattle.gltf_schema.specs.Floats.{real_float}
use Rattle.gltf_findings_codes.specs.declared.code.Code.TheVariants.{ValueNotInRange}
use Rattle.gltf_findings_codes.specs.declared.name.Name.{Name}
use Rattle.gltf_findings_codes.specs.declared.finding.Object.{Object}
use Rattle.gltf_findings_codes.specs.declared.finding.Subject.TheVariants.{Member, Entry}
use Rattle.gltf_findings_codes.specs.declared.finding.Finding.{Finding}
use Rattle.gltf_findings_codes.specs.declared.range.Range.{Range}
use Rattle.gltf_findings_codes.specs.declared.range.Range.TheVariants.{Factor, Cosine, NotNegative, Positive, RefractionIndex, InnerAngle, OuterAngle}
use Rattle.gltf_findings_codes.specs.Found.{broken, found, findings_from, findings_if}

-- a quarter turn: 1.5707963267948966
abbrev pub quarter_turn : Float
quarter_turn = of_bits binary64 0x3ff9_21fb_5444_2d18

abbrev pub is_within : Range → Float → Bool
is_within Factor x = le float_zero x && le x float_one
is_within Cosine x = le (neg x) float_one && le x float_one
is_within NotNegative x = le float_zero x
is_within Positive x = lt float_zero x
is_within RefractionIndex x = eq x float_zero || le float_one x
is_within InnerAngle x = le float_zero x && lt x quarter_turn
is_within OuterAngle x = lt float_zero x && le x quarter_turn

abbrev pub is_out : Range → Real → Bool
is_out range x = not (is_within range (real_float x))

-- a number that isn't there is the default, which is within the range
abbrev pub is_some_out : Range → Option Real → Bool
is_some_out range None = false
is_some_out range (Some x) = is_out range x

-- the rule for a number that an object may have
abbrev pub range_rule : Range → Object → Name → Option Real → Option Finding
range_rule range object name number = broken (is_some_out range number) ValueNotInRange (Member object name)

-- the finding at a number of a list
abbrev pub number_findings : Object → Name → Range → ℕ → Real → List Finding
number_findings object name range k x = found (broken (is_out range x) ValueNotInRange (Entry object name k) ∷ [])

-- the findings of numbers that may be there
abbrev pub numbers_findings : Object → Name → Range → Option (List Real) → List Finding
numbers_findings object name range xs = findings_if (findings_from (number_findings object name range) 0) xs
