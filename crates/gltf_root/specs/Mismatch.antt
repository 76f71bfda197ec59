-- What the table wants where it refuses a text, and what is there.
use Rattle.std.specs.Prelude.{◌≡◌, ◌++◌, ℕ, List, Option, Some, None, Result, Ok, Err, ⊤, codes, string_bytes}
use Rattle.serde_json.specs.Data.{Data}
use Rattle.serde_json.specs.Find.{pointer}
use Rattle.serde_json.specs.Read.{read as read_json}
use Rattle.gltf_base.specs.Steps.{Step}
use Rattle.gltf_base.specs.declared.error.Error.{Error}
use Rattle.gltf_schema.specs.Kind.{Kind}
use Rattle.gltf_schema.specs.Refused.{IsRefusedAt}
use Rattle.gltf_root.specs.FoundText.{found_text}
use Rattle.gltf_root.specs.Place.{IsAtEnd, IsPlaceIn, IsUnread, kind_found}
use Rattle.gltf_root.specs.Wanted.{kind_at, wanted_of, wanted_text}
use Rattle.gltf_root.specs.declared.mismatch.Mismatch.{Mismatch}

-- what is there in a value: what the place's pointer leads to
abbrev pub IsFoundThere : Data → Mismatch → Type 0
IsFoundThere d m = m.found ≡ kind_found (pointer (string_bytes m.place.pointer) d)

-- the place of what the kind refuses in a value, the JSON that the kind at that place is read from,
-- and what is there
abbrev pub IsMismatchOf : Kind → Data → Mismatch → Type 0
IsMismatchOf kind d m = (steps : List Step) × IsRefusedAt steps kind d × IsAtEnd steps m.place × (there : Kind) × (kind_at kind steps ≡ Some there) × (m.wanted ≡ wanted_of there) × IsFoundThere d m

-- as IsPlaceIn, with what is wanted and found there
abbrev pub IsMismatchIn : Kind → List ℕ → Result (Option Mismatch) Error → Type 0
IsMismatchIn kind s (Ok None) = IsPlaceIn kind s (Ok None)
IsMismatchIn kind s (Ok (Some m)) = (d : Data) × (read_json s ≡ Some d) × IsMismatchOf kind d m
IsMismatchIn kind s (Err e) = IsUnread s e

-- what is wanted and found at the end of steps, if the table has such a place
abbrev pub IsMismatchAt : Kind → List ℕ → List Step → Result (Option Mismatch) Error → Type 0
IsMismatchAt kind s steps (Ok None) = (there : Kind) → kind_at kind steps ≡ Some there → ⊥
IsMismatchAt kind s steps (Ok (Some m)) = IsAtEnd steps m.place × ((there : Kind) → kind_at kind steps ≡ Some there → m.wanted ≡ wanted_of there) × (d : Data) × (read_json s ≡ Some d) × IsFoundThere d m
IsMismatchAt kind s steps (Err e) = IsUnread s e

-- what is printed of it
abbrev pub mismatch_text : Mismatch → List ℕ
mismatch_text m = string_bytes m.place.path.0 ++ codes ": wanted " ++ wanted_text m.wanted ++ codes ", found " ++ found_text m.found
