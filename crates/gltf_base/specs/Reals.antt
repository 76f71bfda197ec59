-- The number that a real is.
use Rattle.std.specs.Prelude.{◌≡◌, ℕ, List, Some, option_map}
use Rattle.std.specs.Float.{Float, binary32, binary64}
use Rattle.fast_float.specs.Parse.{parse_float}
use Rattle.ryu.specs.Plain.{IsLaidOutNumber}
use Rattle.serde_json.specs.Data.{Num, unsigned, float, Data, number}
use Rattle.serde_json.specs.View.{view}
use Rattle.serde_json.specs.declared.value.Value.{Value}
use Rattle.gltf_base.specs.declared.real.Real.{Real}

-- the number of JSON that is one; a real holds nothing else (`is_number` of `Real`)
abbrev pub number_in : Data → Num
number_in (number x) = x
number_in _ = unsigned 0

-- the value that a real holds
abbrev pub real_value : Real → Value
real_value x = x.value

abbrev pub real_number : Real → Num
real_number x = number_in (view (real_value x))

-- a decimal reads as this f32, and the number is the f64 nearest to that decimal. The decimal has the layout of `ryu`: an exponent
-- only behind more than 13 digits before the point, or more than 5 zeros after it
abbrev pub IsShortFormOf : Float → Num → Type 0
IsShortFormOf x n = (text : List ℕ) × IsLaidOutNumber 13 5 text
    × (parse_float binary32 text ≡ Some x) × (option_map float (parse_float binary64 text) ≡ Some n)
