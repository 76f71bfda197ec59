-- One row, where the place of what is refused is kept: its member is taken out of what is left, and
-- then read into its place.
use Rattle.std.proofs.Common.{◌≡◌, ℕ, List, [], ◌∷◌, Option, Some, None, option_map, Result, Ok, Err, inl, inr, refl, ◌∙◌}
use Rattle.serde_json.specs.Data.{Data, Members}
use Rattle.serde_json.specs.Find.{get_member}
use Rattle.gltf_base.specs.Steps.{Step, field}
use Rattle.gltf_schema.specs.Tree.{Tree}
use Rattle.gltf_schema.specs.Kind.{Mark, required, Kind}
use Rattle.gltf_schema.specs.Read.{read, read_member}
use Rattle.gltf_schema.specs.Taken.{take_member}
use Rattle.gltf_schema.specs.RowReading.{ReadsRow, StartsRow, FromStart, FoundIn, TakesOut}
use Rattle.gltf_schema.specs.RowPlacing.{IsWithin, IsPlaceOfRow, PlacesMember, PlacedFrom, PlacesValue, PlacesMissing}
use Rattle.gltf_schema.proofs.Placed.{place_of_row}

placed_from : {V : Type 0} (given : V → Data) (old mid new : Result Members (Option (List Step))) (n : List ℕ) (mark : Mark) (kind : Kind) (v : V) (t : Tree)
    → FoundIn given old n (Some v) mid → PlacedFrom t n kind (given v) mid new → read_member mark (read kind) (Some (given v)) ≡ read kind (given v)
    → PlacesMember old n mark kind t new
unfolding take_member
placed_from {V} given (Ok ms) mid new n mark kind v t h (inl k) same = rw (k.1, h.1, ← h.0, same, k.0) refl
placed_from {V} given (Ok ms) mid new n mark kind v t h (inr k) same = rw k.1 (place_of_row k.0 n mark kind (given v) ms h.0 same k.2)
placed_from {V} given (Err place) mid new n mark kind v t h k same = absurd cc

taken_from : {V : Type 0} (given : V → Data) (old new : Result Members (Option (List Step))) (n : List ℕ) (mark : Mark) (kind : Kind) (found : Option V) (t : Tree)
    → FoundIn given old n found new → read_member mark (read kind) (option_map given found) ≡ Some t → PlacesMember old n mark kind t new
unfolding take_member
taken_from {V} given (Ok ms) new n mark kind found t h is = rw (h.1, ← h.0, is) refl
taken_from {V} given (Err place) new n mark kind found t h is = h.1

missing_at : (place : Option (List Step)) (n : List ℕ) (kind : Kind) (ms : Members) → None ≡ get_member n ms → IsWithin (field n) (Some []) place → IsPlaceOfRow place n required kind ms
missing_at None n kind ms none h = tt
missing_at (Some []) n kind ms none h = absurd cc
missing_at (Some (step ∷ steps)) n kind ms none h =
    let first : step ≡ field n = cc in
    let rest : steps ≡ [] = cc in
    rw (← none) (first, refl, rest)

missing_from : {V : Type 0} (given : V → Data) (old mid new : Result Members (Option (List Step))) (n : List ℕ) (kind : Kind) (t : Tree)
    → FoundIn given old n None mid → PlacesMissing mid n new → PlacesMember old n required kind t new
missing_from {V} given (Ok ms) (Ok left) (Ok rest) n kind t h k = absurd k
missing_from {V} given (Ok ms) (Ok left) (Err place) n kind t h k = missing_at place n kind ms h.0 k
missing_from {V} given (Ok ms) (Err place) new n kind t h k = absurd cc
missing_from {V} given (Err place) (Ok left) new n kind t h k = absurd cc
missing_from {V} given (Err place) (Err same) new n kind t h k = k ∙ h.1

-- the value of a row's member was read into its place, or refused
pub value_read : {V : Type 0} {given : V → Data} {old mid new : Result Members (Option (List Step))} {n : List ℕ} {mark : Mark} {kind : Kind} {v : V} {t t' : Tree}
    → TakesOut given old n (Some v) mid → PlacesValue t' n kind (given v) mid new → read_member mark (read kind) (Some (given v)) ≡ read kind (given v)
    → ReadsRow (FromStart PlacesMember) old n mark kind t t' new
value_read {V} {given} {old} {mid} {new} {n} {mark} {kind} {v} {t} {t'} h k same = record { is = λ start. placed_from given old mid new n mark kind v t' h.is k.is same }

-- a row whose member is missing keeps what it starts with; null is read as nothing
pub member_taken : {V : Type 0} {given : V → Data} {old new : Result Members (Option (List Step))} {n : List ℕ} {mark : Mark} {kind : Kind} {found : Option V} {t t' : Tree}
    → TakesOut given old n found new → (StartsRow mark t → read_member mark (read kind) (option_map given found) ≡ Some t') → ReadsRow (FromStart PlacesMember) old n mark kind t t' new
member_taken {V} {given} {old} {new} {n} {mark} {kind} {found} {t} {t'} h is = record { is = λ start. taken_from given old new n mark kind found t' h.is (is start) }

-- a member that has to be there is missing
pub member_missing : {V : Type 0} {given : V → Data} {old mid new : Result Members (Option (List Step))} {n : List ℕ} {kind : Kind} {t t' : Tree}
    → TakesOut given old n None mid → PlacesMissing mid n new → ReadsRow (FromStart PlacesMember) old n required kind t t' new
member_missing {V} {given} {old} {mid} {new} {n} {kind} {t} {t'} h k = record { is = λ start. missing_from given old mid new n kind t' h.is k }
