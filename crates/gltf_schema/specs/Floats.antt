-- Numbers as floats, and what stands for those that are absent.
use Rattle.std.specs.Prelude.{List, map, Option, Some, None}
use Rattle.std.specs.Float.{Float}
use Rattle.serde_json.specs.Find.{to_float}
use Rattle.gltf_base.specs.Reals.{real_number}
use Rattle.gltf_base.specs.declared.real.Real.{Real}

-- the nearest float
abbrev pub real_float : Real → Float
real_float x = to_float (real_number x)

-- the float of a number, or another if the number is absent
abbrev pub float_or : Float → Option Real → Float
float_or y None = y
float_or y (Some x) = real_float x

-- the floats of numbers, or others if the numbers are absent
abbrev pub floats_or : List Float → Option (List Real) → List Float
floats_or ys None = ys
floats_or ys (Some xs) = map real_float xs
