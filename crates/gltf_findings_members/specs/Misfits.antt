-- Values of another kind of JSON than is wanted.
use Rattle.std.specs.Prelude.{Bool, true, false, not, is_some, option_map, if◌then◌else◌, Option, Some, None}
use Rattle.serde_json.specs.Data.{Data, Num}
use Rattle.serde_json.specs.Find.{as_bool, as_number, as_str, as_array, as_object, is_float}
use Rattle.gltf_schema.specs.Read.{small_number, whole_number}
use Rattle.gltf_schema.specs.declared.outline.Shape.{Shape}
use Rattle.gltf_schema.specs.declared.outline.Shape.TheVariants.{Whole32, Whole64, Number, Numbers, Text, Truth, Any, Indexes, List as ListOf, Object}
use Rattle.gltf_findings_codes.specs.declared.code.Code.{Code}
use Rattle.gltf_findings_codes.specs.declared.code.Code.TheVariants.{TypeMismatch, ArrayTypeMismatch, InvalidIndex, ValueNotInRange}

abbrev pub mismatch_unless : Bool → Option Code
mismatch_unless true = None
mismatch_unless false = Some TypeMismatch

abbrev pub is_whole : Option Num → Bool
is_whole None = false
is_whole (Some n) = not (is_float n)

-- a whole number of at most 64 bits, with a sign or without
abbrev pub is_integer : Data → Bool
is_integer d = is_whole (as_number d)

abbrev pub out_of_range : Data → Code → Code
out_of_range d code = if is_integer d then code else TypeMismatch

-- an index, or the number of a set of texture coordinates
abbrev pub index_misfit : Data → Option Code
index_misfit d = if is_some (small_number d) then None else Some (out_of_range d InvalidIndex)

abbrev pub whole_misfit : Data → Option Code
whole_misfit d = if is_some (whole_number d) then None else Some (out_of_range d ValueNotInRange)

-- what is wrong with a value by itself, without what it holds; without a shape nothing is wanted
abbrev pub misfit : Option Shape → Data → Option Code
misfit None d = None
misfit (Some Any) d = None
misfit (Some Whole32) d = index_misfit d
misfit (Some Whole64) d = whole_misfit d
misfit (Some Number) d = mismatch_unless (is_some (as_number d))
misfit (Some Text) d = mismatch_unless (is_some (as_str d))
misfit (Some Truth) d = mismatch_unless (is_some (as_bool d))
misfit (Some (Numbers n j)) d = mismatch_unless (is_some (as_array d))
misfit (Some (ListOf j)) d = mismatch_unless (is_some (as_array d))
misfit (Some (Indexes j)) d = mismatch_unless (is_some (as_object d))
misfit (Some (Object rows keeps)) d = mismatch_unless (is_some (as_object d))

-- whole numbers of 32 bits in a list are indexes
abbrev pub item_mismatch : Option Shape → Code
item_mismatch (Some Whole32) = InvalidIndex
item_mismatch _ = ArrayTypeMismatch

-- an item of another kind than is wanted has a code of its own
abbrev pub item_code : Option Shape → Code → Code
item_code s TypeMismatch = item_mismatch s
item_code s code = code

abbrev pub misfit_in : Bool → Option Shape → Data → Option Code
misfit_in false s d = misfit s d
misfit_in true s d = option_map (item_code s) (misfit s d)
