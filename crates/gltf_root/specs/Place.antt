-- The place at which the table refuses a text.
use Rattle.std.specs.Prelude.{◌≡◌, ℕ, List, Option, Some, None, option_map, Result, Ok, Err, ⊤, string_bytes}
use Rattle.serde_json.specs.Data.{Data, null, boolean, number, string, array, object}
use Rattle.serde_json.specs.Find.{pointer}
use Rattle.serde_json.specs.Read.{read as read_json}
use Rattle.serde_json.specs.View.{view}
use Rattle.serde_json.specs.declared.value.Value.{Value}
use Rattle.gltf_base.specs.Pointers.{pointer_text}
use Rattle.gltf_base.specs.Steps.{Step}
use Rattle.gltf_base.specs.Text.{path_text}
use Rattle.gltf_base.specs.declared.error.Error.{Error}
use Rattle.gltf_base.specs.declared.error.Error.TheVariants as errors
use Rattle.gltf_schema.specs.Kind.{Kind}
use Rattle.gltf_schema.specs.Read.{read}
use Rattle.gltf_schema.specs.Refused.{IsRefusedAt}
use Rattle.gltf_schema.specs.Tree.{Tree}
use Rattle.gltf_root.specs.declared.found.Found.{Found}
use Rattle.gltf_root.specs.declared.found.Found.TheVariants.{Missing, Null, Bool, Number, Text, List as AList, Object}
use Rattle.gltf_root.specs.declared.text.Place.{Place}

-- the place is at the end of the steps
abbrev pub IsAtEnd : List Step → Place → Type 0
IsAtEnd steps place = (string_bytes place.path.0 ≡ path_text steps) × (string_bytes place.pointer ≡ pointer_text steps)

-- the place is that of what the kind refuses in a value
abbrev pub IsPlaceOf : Kind → Data → Place → Type 0
IsPlaceOf kind d place = (steps : List Step) × IsRefusedAt steps kind d × IsAtEnd steps place

-- why the value of a text isn't looked at: the text is no JSON, or memory was refused
abbrev pub IsUnread : List ℕ → Error → Type 0
IsUnread s errors.Json = read_json s ≡ None
IsUnread s (errors.Memory e) = ⊤
IsUnread s _ = ⊥

-- the place that the kind refuses in a text, if the text is JSON that the kind doesn't read
abbrev pub IsPlaceIn : Kind → List ℕ → Result (Option Place) Error → Type 0
IsPlaceIn kind s (Ok None) = (t : Tree) × (option_map (read kind) (read_json s) ≡ Some (Some t))
IsPlaceIn kind s (Ok (Some place)) = (d : Data) × (read_json s ≡ Some d) × IsPlaceOf kind d place
IsPlaceIn kind s (Err e) = IsUnread s e

-- ---- what is there

-- what JSON is at a place, or that it is missing
abbrev pub kind_found : Option Data → Found
kind_found None = Missing
kind_found (Some null) = Null
kind_found (Some (boolean b)) = Bool
kind_found (Some (number n)) = Number
kind_found (Some (string s)) = Text
kind_found (Some (array ds)) = AList
kind_found (Some (object ms)) = Object

-- as IsPlaceIn, and what is there in the text: what the place's pointer leads to
abbrev pub IsFoundIn : Kind → List ℕ → Result (Option (Place × Found)) Error → Type 0
IsFoundIn kind s (Ok None) = IsPlaceIn kind s (Ok None)
IsFoundIn kind s (Ok (Some (place, found))) = IsPlaceIn kind s (Ok (Some place))
    × (d : Data) × (read_json s ≡ Some d) × (found ≡ kind_found (pointer (string_bytes place.pointer) d))
IsFoundIn kind s (Err e) = IsUnread s e

-- a text that is JSON is read as its value; memory may be refused
abbrev pub IsJsonIn : List ℕ → Result Value Error → Type 0
IsJsonIn s (Ok v) = read_json s ≡ Some (view v)
IsJsonIn s (Err e) = IsUnread s e
