-- What each method of Printing gives: the tokens of what is printed, or the error that was met. Each
-- definition stays folded in a record, which keeps an object's chain of rows from being computed.
use Rattle.std.specs.Prelude.{◌≡◌, ◌⊎◌, ℕ, List, [], ◌∷◌, ◌++◌, Bool, false, Option, Some, None, option_map, unwrap_or, Result, Ok, Err, MatchOption, IsSomeAnd, ⊤}
use Rattle.json.specs.Token.{Token, begin_object, end_object, key}
use Rattle.serde_json.specs.Data.{Data, Members, no_members, put}
use Rattle.serde_json.specs.View.{members_view}
use Rattle.serde_json.specs.Written.{WritesValue, WritesMembers}
use Rattle.gltf_base.specs.declared.error.Error.{Error}
use Rattle.gltf_schema.specs.declared.printing.Printing.{Printing}
use Rattle.gltf_schema.specs.Outcome.{Withholds}
use Rattle.gltf_schema.specs.Kind.{Kind, required}
use Rattle.gltf_schema.specs.Tree.{Tree}
use Rattle.gltf_schema.specs.Invalid.{holds_invalid}
use Rattle.gltf_schema.specs.Put.{put_member}

-- what is printed so far: the tokens, behind what the buffer held at first, or the error that was
-- met. The members of an object that keeps unknown ones are gathered meanwhile
pub record Printed : Type 0 where
  pub failed : Option Error
  pub kept : Option Members
  pub tokens : List Token
  pub before : List ℕ

abbrev pub printing_state : {W : Type 0} → (W → List Token) → (W → List ℕ) → Printing W → Printed
printing_state tokens before p = record { failed = p.failed; kept = option_map (λ m. members_view m.entries) p.kept; tokens = tokens p.out; before = before p.out }

-- what failed before stays; else tokens are added, or an error is met
abbrev pub GoesOn : Printed → (List Token → List Token → Type 0) → (Error → Type 0) → Printed → Type 0
GoesOn old Adds Fails new =
    MatchOption old.failed
    (MatchOption new.failed ((new.kept ≡ old.kept) × (new.before ≡ old.before) × Adds old.tokens new.tokens) Fails)
    (λ e. new.failed ≡ Some e)

-- one token was printed
pub record PrintsToken (old : Printed) (t : Token) (new : Printed) : Type 0 where
  pub is : GoesOn old (λ a b. b ≡ a ++ t ∷ []) (λ e. Withholds e (Some t) false) new

-- a value was printed, or something in it is invalid
pub record PrintsValue (old : Printed) (d : Option Data) (is_invalid : Bool) (new : Printed) : Type 0 where
  pub is : GoesOn old (λ a b. IsSomeAnd d (λ x. WritesValue x a b)) (λ e. Withholds e d is_invalid) new

-- printing begins behind what the writer has
pub record Begins {W : Type 0} (tokens : W → List Token) (before : W → List ℕ) (out : W) (state : Printed) : Type 0 where
  pub is : state ≡ record { failed = None; kept = None; tokens = tokens out; before = before out }

-- all was printed, or an error was met
abbrev pub Ends : {W : Type 0} → (W → List Token) → (W → List ℕ) → Printed → Result W Error → Type 0
Ends tokens before state (Ok out) = (state.failed ≡ None) × (state.tokens ≡ tokens out) × (state.before ≡ before out)
Ends tokens before state (Err e) = state.failed ≡ Some e

pub record Finishes {W : Type 0} (tokens : W → List Token) (before : W → List ℕ) (state : Printed) (result : Result W Error) : Type 0 where
  pub is : Ends tokens before state result

-- the first error stays, and what is printed
pub record FailsWith (old : Printed) (e : Error) (new : Printed) : Type 0 where
  pub is : new ≡ record old { failed = Some (unwrap_or old.failed e) }

-- what is printed so far, or why printing failed
abbrev failed_or : Printed → Option Error → Result Printed Error
failed_or p None = Ok p
failed_or p (Some e) = Err e

abbrev pub printed_or_error : Printed → Result Printed Error
printed_or_error p = failed_or p p.failed

-- a name and its value were printed
abbrev pub PrintsMember : List ℕ → Data → List Token → List Token → Type 0
PrintsMember n d old new = (mid : List Token) × (mid ≡ old ++ key n ∷ []) × WritesValue d mid new

-- a row's member was printed, or put into the members that are gathered
pub record RowPrinted (old : Printed) (n : List ℕ) (d : Data) (new : Printed) : Type 0 where
  pub before : new.before ≡ old.before
  pub shown : MatchOption old.kept ((new.kept ≡ None) × PrintsMember n d old.tokens new.tokens) (λ ms. (new.kept ≡ Some (put n d ms)) × (new.tokens ≡ old.tokens))

-- members that no row names are gathered with those of the rows, if there are any
abbrev pub OthersKept : Members → Printed → Printed → Type 0
OthersKept others old new = ((others ≡ no_members) × (new ≡ old)) ⊎ ((new.kept ≡ Some others) × (new.tokens ≡ old.tokens) × (new.before ≡ old.before))

-- an object was begun, and the members that were gathered so far were set aside
pub record BeginsObject (old : Printed) (outer : Option Members) (new : Printed) : Type 0 where
  pub is : MatchOption old.failed
      (MatchOption new.failed ((outer ≡ old.kept) × (new.kept ≡ None) × (new.before ≡ old.before) × (new.tokens ≡ old.tokens ++ begin_object ∷ [])) (λ e. Withholds e (Some begin_object) false))
      (λ e. new.failed ≡ Some e)

-- an object was ended: what was gathered is printed, and what was set aside is back
pub record EndsObject (old : Printed) (outer : Option Members) (new : Printed) : Type 0 where
  pub is : MatchOption old.failed
      (MatchOption new.failed
      ((new.kept ≡ outer) × (new.before ≡ old.before) × MatchOption old.kept (new.tokens ≡ old.tokens ++ end_object ∷ []) (λ ms. WritesMembers ms old.tokens new.tokens))
      (λ e. Withholds e (Some end_object) false))
      (λ e. new.failed ≡ Some e)

-- a value was put into the members that are gathered, or something in it is invalid
abbrev pub GatheredInto : Members → List ℕ → Kind → Tree → Printed → Printed → Type 0
GatheredInto ms n kind t old new =
    MatchOption new.failed
    ((new.tokens ≡ old.tokens) × (new.before ≡ old.before) × ((ms' : Members) × (new.kept ≡ Some ms') × (put_member n required kind t ms ≡ Some ms')))
    (λ e. Withholds e (put_member n required kind t ms) (holds_invalid t))

-- the same; what failed before stays
pub record Gathers (old : Printed) (n : List ℕ) (kind : Kind) (t : Tree) (new : Printed) : Type 0 where
  pub is : MatchOption old.failed (MatchOption old.kept ⊤ (λ ms. GatheredInto ms n kind t old new)) (λ e. new.failed ≡ Some e)
