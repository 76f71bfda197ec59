-- One row: its member is taken out of what is left, and then read into its place.
use Rattle.std.proofs.Common.{◌≡◌, ℕ, List, Option, Some, None, option_map, true, false, is_some, Result, Ok, Err, refl}
use Rattle.serde_json.specs.Data.{Data, Members}
use Rattle.serde_json.specs.Find.{as_null}
use Rattle.gltf_base.specs.declared.error.Error.{Error}
use Rattle.gltf_base.specs.declared.error.Error.TheVariants as errors
use Rattle.gltf_schema.specs.Outcome.{Reads}
use Rattle.gltf_schema.specs.Tree.{Tree, absent}
use Rattle.gltf_schema.specs.Kind.{Mark, required, optional, Kind}
use Rattle.gltf_schema.specs.Read.{read, read_member}
use Rattle.gltf_schema.specs.Taken.{take_member}
use Rattle.gltf_schema.specs.RowReading.{ReadsRow, StartsRow, FromStart, TakesMember, FoundIn, TakesOut, noted, ReadsValue, refused_by}
use Rattle.gltf_schema.proofs.TakingOut.{refused}

read_from : {V : Type 0} (given : V → Data) (old mid : Result Members Error) (r : Result (Unit {0}) Error) (n : List ℕ) (mark : Mark) (kind : Kind) (v : V) (t : Tree)
    → FoundIn given old n (Some v) mid → Reads (λ _. t) r (read kind (given v)) → read_member mark (read kind) (Some (given v)) ≡ read kind (given v)
    → TakesMember old n mark kind t (noted r mid)
unfolding take_member
read_from {V} given (Ok ms) mid (Ok u) n mark kind v t h k same = rw (h.1, ← h.0, same, k) refl
read_from {V} given (Ok ms) mid (Err e) n mark kind v t h k same = rw (← h.0, same) (refused e _ (read kind (given v)) k)
read_from {V} given (Err e) mid r n mark kind v t h k same = absurd cc

taken_from : {V : Type 0} (given : V → Data) (old new : Result Members Error) (n : List ℕ) (mark : Mark) (kind : Kind) (found : Option V) (t : Tree)
    → FoundIn given old n found new → read_member mark (read kind) (option_map given found) ≡ Some t → TakesMember old n mark kind t new
unfolding take_member
taken_from {V} given (Ok ms) new n mark kind found t h is = rw (h.1, ← h.0, is) refl
taken_from {V} given (Err e) new n mark kind found t h is = h.1

missing_from : {V : Type 0} (given : V → Data) (old mid : Result Members Error) (n : List ℕ) (kind : Kind) (t : Tree)
    → FoundIn given old n None mid → TakesMember old n required kind t (refused_by errors.Schema mid)
unfolding take_member
missing_from {V} given (Ok ms) mid n kind t h = rw (h.1, ← h.0) refl
missing_from {V} given (Err e) mid n kind t h = rw h.1 refl

-- the value of a row's member was read into its place, or refused
pub value_read : {V : Type 0} {given : V → Data} {old mid new : Result Members Error} {n : List ℕ} {mark : Mark} {kind : Kind} {v : V} {t t' : Tree}
    → TakesOut given old n (Some v) mid → ReadsValue t' kind (given v) mid new → read_member mark (read kind) (Some (given v)) ≡ read kind (given v)
    → ReadsRow (FromStart TakesMember) old n mark kind t t' new
value_read {V} {given} {old} {mid} {new} {n} {mark} {kind} {v} {t} {t'} h k same =
    rw k.is (record { is = λ start. read_from given old mid k.outcome n mark kind v t' h.is k.reads same })

-- a row whose member is missing keeps what it starts with; null is read as nothing
pub member_taken : {V : Type 0} {given : V → Data} {old new : Result Members Error} {n : List ℕ} {mark : Mark} {kind : Kind} {found : Option V} {t t' : Tree}
    → TakesOut given old n found new → (StartsRow mark t → read_member mark (read kind) (option_map given found) ≡ Some t') → ReadsRow (FromStart TakesMember) old n mark kind t t' new
member_taken {V} {given} {old} {new} {n} {mark} {kind} {found} {t} {t'} h is = record { is = λ start. taken_from given old new n mark kind found t' h.is (is start) }

-- a member that has to be there is missing
pub member_missing : {V : Type 0} {given : V → Data} {old mid new : Result Members Error} {n : List ℕ} {kind : Kind} {t t' : Tree}
    → TakesOut given old n None mid → new ≡ refused_by errors.Schema mid → ReadsRow (FromStart TakesMember) old n required kind t t' new
member_missing {V} {given} {old} {mid} {new} {n} {kind} {t} {t'} h is = rw is (record { is = λ start. missing_from given old mid n kind t' h.is })

-- a value that isn't null is read as the kind reads it
pub not_null : (kind : Kind) (d : Data) → is_some (as_null d) ≡ false → read_member optional (read kind) (Some d) ≡ read kind d
not_null kind d h = rw h refl

-- null is read as nothing
pub null_absent : (kind : Kind) (d : Data) → is_some (as_null d) ≡ true → read_member optional (read kind) (Some d) ≡ Some absent
null_absent kind d h = rw h refl
