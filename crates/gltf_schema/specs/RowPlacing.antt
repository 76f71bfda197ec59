-- What `decode_or_place` gives, and what the rows and the other members of an object are read as by
-- a driver that keeps the place of what is refused. A place is the steps to it; None stands for a
-- growth that was refused.
use Rattle.std.specs.Prelude.{◌≡◌, ◌⊎◌, ⊤, ℕ, List, [], ◌∷◌, map, string_bytes, Option, Some, None, option_map, Result, Ok, Err}
use Rattle.serde_json.specs.Data.{Data, Members}
use Rattle.serde_json.specs.Find.{get_member}
use Rattle.gltf_base.specs.Steps.{Step, field, item}
use Rattle.gltf_base.specs.declared.error.Error.{Error}
use Rattle.gltf_base.specs.declared.error.Error.TheVariants as errors
use Rattle.gltf_schema.specs.Tree.{Tree}
use Rattle.gltf_schema.specs.Kind.{Mark, Kind}
use Rattle.gltf_schema.specs.Read.{read, read_member}
use Rattle.gltf_schema.specs.Taken.{take_member}
use Rattle.gltf_schema.specs.Refused.{IsMissingOr, IsRefusedAt}
use Rattle.gltf_schema.specs.declared.placing.OwnedStep.{OwnedStep}
use Rattle.gltf_schema.specs.declared.placing.OwnedStep.TheVariants.{Field, Index}
use Rattle.gltf_schema.specs.declared.placing.Refusal.{Refusal}
use Rattle.gltf_schema.specs.declared.placing.Refusal.TheVariants.{At, Memory}

-- the step that owns its name
abbrev pub owned_step : OwnedStep → Step
owned_step (Field name) = field (string_bytes name)
owned_step (Index number) = item number

-- the place of a refusal
abbrev pub place_of : Refusal → Option (List Step)
place_of (At steps) = Some (map owned_step steps.items)
place_of (Memory e) = None

-- the place of an error: the value that was read
abbrev pub error_place : Error → Option (List Step)
error_place (errors.Memory e) = None
error_place _ = Some []

-- a place seen from one step further up; to add the step may take memory
abbrev pub IsWithin : Step → Option (List Step) → Option (List Step) → Type 0
IsWithin step inner None = ⊤
IsWithin step inner (Some steps) = option_map (λ rest. step ∷ rest) inner ≡ Some steps

-- the place is inside the value
abbrev pub IsInside : Option (List Step) → Type 0
IsInside None = ⊤
IsInside (Some []) = ⊥
IsInside (Some (step ∷ steps)) = ⊤

-- the place is one at which the kind refuses the value
abbrev pub IsPlaceIn : Option (List Step) → Kind → Data → Type 0
IsPlaceIn None kind d = ⊤
IsPlaceIn (Some steps) kind d = IsRefusedAt steps kind d

-- the value, seen by view, is what the kind reads; or the place at which it refuses is given
abbrev pub ReadsOrPlaces : {X : Type 0} → (X → Tree) → Result X Refusal → Kind → Data → Type 0
ReadsOrPlaces view (Ok x) kind d = read kind d ≡ Some (view x)
ReadsOrPlaces view (Err r) kind d = IsPlaceIn (place_of r) kind d

-- what was decoded of a value, or the place of the value itself
abbrev pub IsWhole : {X : Type 0} → Result X Error → Result X Refusal → Type 0
IsWhole (Ok x) r = r ≡ Ok x
IsWhole (Err e) (Ok x) = ⊥
IsWhole (Err e) (Err r) = place_of r ≡ error_place e

-- ---- the rows of an object

-- the place begins at a member of this name and leads to what the kind refuses in its value
abbrev pub IsPlaceUnder : Option (List Step) → List ℕ → Kind → Data → Type 0
IsPlaceUnder None n kind d = ⊤
IsPlaceUnder (Some []) n kind d = ⊥
IsPlaceUnder (Some (step ∷ steps)) n kind d = (step ≡ field n) × IsRefusedAt steps kind d

-- the row refuses its member, and the place is that of the member or in it
abbrev pub IsPlaceOfRow : Option (List Step) → List ℕ → Mark → Kind → Members → Type 0
IsPlaceOfRow None n mark kind ms = ⊤
IsPlaceOfRow (Some []) n mark kind ms = ⊥
IsPlaceOfRow (Some (step ∷ steps)) n mark kind ms = (step ≡ field n) × (read_member mark (read kind) (get_member n ms) ≡ None) × IsMissingOr steps (λ x. IsRefusedAt steps kind x) (get_member n ms)

-- the members that are left, or the place of what was refused
abbrev pub members_or_place : {F : Type 0} → (F → Members) → Result F Refusal → Result Members (Option (List Step))
members_or_place view (Ok left) = Ok (view left)
members_or_place view (Err r) = Err (place_of r)

-- a row's tree and the members left after it, or its place; what was refused before stays
abbrev pub PlacesMember : Result Members (Option (List Step)) → List ℕ → Mark → Kind → Tree → Result Members (Option (List Step)) → Type 0
PlacesMember (Ok ms) n mark kind t (Ok left) = take_member n mark kind ms ≡ Some (t, left)
PlacesMember (Ok ms) n mark kind t (Err place) = IsPlaceOfRow place n mark kind ms
PlacesMember (Err place) n mark kind t new = new ≡ Err place

-- a value was read as a tree and what is left stays, or the place under its name is left
abbrev pub PlacedFrom : Tree → List ℕ → Kind → Data → Result Members (Option (List Step)) → Result Members (Option (List Step)) → Type 0
PlacedFrom t n kind d old new = ((read kind d ≡ Some t) × (new ≡ old)) ⊎ ((place : Option (List Step)) × (new ≡ Err place) × IsPlaceUnder place n kind d)

-- the value of the member of a name was read into its place, or refused
pub record PlacesValue (t : Tree) (n : List ℕ) (kind : Kind) (d : Data) (old new : Result Members (Option (List Step))) : Type 0 where
  pub is : PlacedFrom t n kind d old new

-- a member is missing, and its place is left; what was refused before stays
abbrev pub PlacesMissing : Result Members (Option (List Step)) → List ℕ → Result Members (Option (List Step)) → Type 0
PlacesMissing (Ok ms) n (Err place) = IsWithin (field n) (Some []) place
PlacesMissing (Ok ms) n (Ok left) = ⊥
PlacesMissing (Err place) n new = new ≡ Err place

-- the members that are left were taken out, or memory was refused
abbrev pub PlacesOthers : Result Members (Option (List Step)) → Members → Result Members (Option (List Step)) → Type 0
PlacesOthers (Ok ms) others (Ok left) = others ≡ ms
PlacesOthers (Ok ms) others (Err None) = ⊤
PlacesOthers (Ok ms) others (Err (Some steps)) = ⊥
PlacesOthers (Err place) others new = new ≡ Err place

-- the members that are left were taken out into a place
abbrev pub PlacesLeft : Result Members (Option (List Step)) → Members → Members → Result Members (Option (List Step)) → Type 0
PlacesLeft old ms ms' new = PlacesOthers old ms' new
