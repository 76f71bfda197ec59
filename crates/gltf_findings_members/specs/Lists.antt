-- Lists: indexes that are listed twice, empty lists, and lists of a fixed length.
use Rattle.std.specs.Prelude.{ℕ, ◌+◌, ◌==◌, List, [], ◌∷◌, ◌++◌, Bool, if◌then◌else◌, Option, Some, None}
use Rattle.std.specs.List.{list_any}
use Rattle.std.specs.Ordering.{nat_cmp}
use Rattle.std.specs.BTreeMap.{is_at}
use Rattle.std.specs.BTreeSet.{insert_key}
use Rattle.serde_json.specs.Data as json
use Rattle.serde_json.specs.Data.{Data, Items}
use Rattle.serde_json.specs.Events.{items_len}
use Rattle.gltf_base.specs.Steps.{Step, item}
use Rattle.gltf_schema.specs.Read.{whole_number}
use Rattle.gltf_schema.specs.declared.outline.Shape.{Shape}
use Rattle.gltf_schema.specs.declared.outline.Shape.TheVariants.{Whole32}
use Rattle.gltf_findings_codes.specs.declared.code.Code.{Code}
use Rattle.gltf_findings_codes.specs.declared.code.Code.TheVariants.{DuplicateElements, EmptyEntity, ArrayLengthNotInList}
use Rattle.gltf_findings_members.specs.Noted.{Noted, maybe_note}

abbrev pub empty_code : Items → Option Code
empty_code ds = if items_len ds == 0 then Some EmptyEntity else None

abbrev pub length_code : ℕ → Items → Option Code
length_code n ds = if items_len ds == n then None else Some ArrayLengthNotInList

-- a number is one of these
abbrev pub is_among : List ℕ → ℕ → Bool
is_among before n = list_any (is_at (nat_cmp n)) before

abbrev pub repeated : List ℕ → Option ℕ → Option Code
repeated before None = None
repeated before (Some n) = if is_among before n then Some DuplicateElements else None

-- a number that is one of those before
abbrev pub repeat_code : List ℕ → Data → Option Code
repeat_code before d = repeated before (whole_number d)

abbrev pub with_number : List ℕ → Option ℕ → List ℕ
with_number before None = before
with_number before (Some n) = insert_key nat_cmp before n

abbrev pub with_index : List ℕ → Data → List ℕ
with_index before d = with_number before (whole_number d)

-- the items of a list, from the one of number i on, that are among those before, which are in order
abbrev pub repeats_from : List Step → List ℕ → ℕ → Items → List Noted
repeats_from at before i json.no_items = []
repeats_from at before i (json.item d ds) = maybe_note (at ++ item i ∷ []) (repeat_code before d) ++ repeats_from at (with_index before d) (i + 1) ds

-- whole numbers of 32 bits in a list are indexes, and section 5 has each of them once
abbrev pub repeat_notices : Option Shape → List Step → Items → List Noted
repeat_notices (Some Whole32) at ds = repeats_from at [] 0 ds
repeat_notices _ at ds = []
