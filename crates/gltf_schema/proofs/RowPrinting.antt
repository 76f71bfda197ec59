-- One row printed, or put into the members that are gathered.
use Rattle.std.proofs.Common.{◌≡◌, ℕ, true, false, List, [], ◌∷◌, ◌++◌, Option, Some, None, option_map, Ok, Err, refl, sym, ap, ◌∙◌, subst}
use Rattle.std.proofs.lemmas.Bool.{false≢true, true≢false}
use Rattle.std.specs.Prelude.{MatchOption, IsSomeAnd, is_some}
use Rattle.std.proofs.lemmas.Option.{MatchOption-at_none, MatchOption-at_some}
use Rattle.json.specs.Token.{key}
use Rattle.serde_json.specs.Data.{Data, Members, put}
use Rattle.serde_json.specs.Written.{WritesValue}
use Rattle.gltf_base.specs.declared.error.Error.{Error}
use Rattle.gltf_schema.specs.Outcome.{Withholds}
use Rattle.gltf_schema.specs.Tree.{Tree}
use Rattle.gltf_schema.specs.Kind.{Mark, Kind, required}
use Rattle.gltf_schema.specs.ByName.{row_data}
use Rattle.gltf_schema.specs.Invalid.{holds_invalid}
use Rattle.gltf_schema.specs.Write.{write}
use Rattle.gltf_schema.specs.Put.{put_member}
use Rattle.gltf_schema.specs.Printings.{Printed, printed_or_error, PrintsToken, PrintsValue, PrintsMember, RowPrinted, Gathers}
use Rattle.gltf_schema.specs.Rowwise.{RowAdded, WritesRow, PutsIn}
use Rattle.gltf_schema.proofs.Putting.{withheld, withheld_anyway}
use Rattle.gltf_schema.proofs.RowsPut.{row_put, withheld_put}

-- what failed is an error
pub failed_with : (p : Printed) (e : Error) → p.failed ≡ Some e → printed_or_error p ≡ Err e
failed_with p e h = rw h refl

pub went_on : (p : Printed) → p.failed ≡ None → printed_or_error p ≡ Ok p
went_on p h = rw h refl

-- a row after a failure
after_failure : (old new : Printed) (n : List ℕ) (mark : Mark) (kind : Kind) (t : Tree) (e : Error) → old.failed ≡ Some e → new.failed ≡ Some e
    → WritesRow RowPrinted (printed_or_error old) n mark kind t (printed_or_error new)
after_failure old new n mark kind t e h k = rw (failed_with old e h, failed_with new e k) (record { is = refl })

-- a row that fails
row_fails : (old new : Printed) (n : List ℕ) (mark : Mark) (kind : Kind) (t : Tree) (e : Error) → old.failed ≡ None → new.failed ≡ Some e
    → Withholds e (row_data mark kind t) (holds_invalid t) → WritesRow RowPrinted (printed_or_error old) n mark kind t (printed_or_error new)
row_fails old new n mark kind t e h k w = rw (went_on old h, failed_with new e k) (record { is = w })

-- a row that is added
row_added : (old new : Printed) (n : List ℕ) (mark : Mark) (kind : Kind) (t : Tree) → old.failed ≡ None → new.failed ≡ None
    → RowAdded RowPrinted old n (row_data mark kind t) new → WritesRow RowPrinted (printed_or_error old) n mark kind t (printed_or_error new)
row_added old new n mark kind t h k w = rw (went_on old h, went_on new k) (record { is = w })

-- a value behind its name is added
value_added : (old mid new : Printed) (n : List ℕ) (d : Option Data) → old.kept ≡ None → new.kept ≡ None → new.before ≡ old.before → mid.tokens ≡ old.tokens ++ key n ∷ []
    → IsSomeAnd d (λ x. WritesValue x mid.tokens new.tokens) → RowAdded RowPrinted old n (option_map Some d) new
value_added old mid new n None kept kept' before e w = absurd w
value_added old mid new n (Some x) kept kept' before e w = record {
  before = before;
  shown = subst (λ k. MatchOption k ((new.kept ≡ None) × PrintsMember n x old.tokens new.tokens) (λ ms. (new.kept ≡ Some (put n x ms)) × (new.tokens ≡ old.tokens))) (sym kept) (kept', (mid.tokens, e, w));
}

value_behind : (old mid new : Printed) (n : List ℕ) (kind : Kind) (t : Tree) (f g : Option Error) → old.kept ≡ None → old.failed ≡ None → mid.failed ≡ f → new.failed ≡ g
    → MatchOption f ((mid.kept ≡ old.kept) × (mid.before ≡ old.before) × (mid.tokens ≡ old.tokens ++ key n ∷ [])) (λ e. Withholds e (Some (key n)) false)
    → MatchOption f (MatchOption g ((new.kept ≡ mid.kept) × (new.before ≡ mid.before) × IsSomeAnd (write kind t) (λ x. WritesValue x mid.tokens new.tokens)) (λ e. Withholds e (write kind t) (holds_invalid t)))
    (λ e. g ≡ Some e)
    → WritesRow RowPrinted (printed_or_error old) n required kind t (printed_or_error new)
value_behind old mid new n kind t None None kept first h k a b =
    row_added old new n required kind t first k (value_added old mid new n (write kind t) kept (b.0 ∙ a.0 ∙ kept) (b.1 ∙ a.1) a.2 b.2)
value_behind old mid new n kind t None (Some e) kept first h k a b = row_fails old new n required kind t e first k (withheld e Some (write kind t) (holds_invalid t) b)
value_behind old mid new n kind t (Some e) g kept first h k a b =
    row_fails old new n required kind t e first (k ∙ b) (withheld_anyway e (Some (key n)) (row_data required kind t) (holds_invalid t) a)

printed_after : (old mid new : Printed) (n : List ℕ) (kind : Kind) (t : Tree) (f : Option Error) → old.failed ≡ f → old.kept ≡ None
    → PrintsToken old (key n) mid → PrintsValue mid (write kind t) (holds_invalid t) new → WritesRow RowPrinted (printed_or_error old) n required kind t (printed_or_error new)
printed_after old mid new n kind t None first kept h k =
    value_behind old mid new n kind t mid.failed new.failed kept first refl refl (MatchOption-at_none _ _ first h.is) k.is
printed_after old mid new n kind t (Some e) first kept h k =
    after_failure old new n required kind t e first (MatchOption-at_some _ _ e (MatchOption-at_some _ _ e first h.is) k.is)

-- a row is printed: its name and its value
pub row_printed : (old mid new : Printed) (n : List ℕ) (kind : Kind) (t : Tree) → old.kept ≡ None
    → PrintsToken old (key n) mid → PrintsValue mid (write kind t) (holds_invalid t) new → WritesRow RowPrinted (printed_or_error old) n required kind t (printed_or_error new)
row_printed old mid new n kind t kept h k = printed_after old mid new n kind t old.failed refl kept h k

-- a value that is put is added
put_added : (old new : Printed) (n : List ℕ) (ms ms' : Members) (d : Option (Option Data)) → old.kept ≡ Some ms → new.kept ≡ Some ms' → new.before ≡ old.before → new.tokens ≡ old.tokens
    → RowAdded PutsIn ms n d ms' → (d ≡ Some None → ⊥) → RowAdded RowPrinted old n d new
put_added old new n ms ms' None kept kept' before e w some = absurd w
put_added old new n ms ms' (Some None) kept kept' before e w some = absurd (some refl)
put_added old new n ms ms' (Some (Some x)) kept kept' before e w some = record {
  before = before;
  shown = subst (λ k. MatchOption k ((new.kept ≡ None) × PrintsMember n x old.tokens new.tokens) (λ ms. (new.kept ≡ Some (put n x ms)) × (new.tokens ≡ old.tokens))) (sym kept) (kept' ∙ ap Some w, e);
}

never_left_out : (d : Option Data) → option_map Some d ≡ Some None → ⊥
never_left_out None h = cc
never_left_out (Some x) h = cc

gathered_by : (old new : Printed) (n : List ℕ) (kind : Kind) (t : Tree) (ms : Members) (g : Option Error) → old.kept ≡ Some ms → old.failed ≡ None → new.failed ≡ g
    → MatchOption g ((new.tokens ≡ old.tokens) × (new.before ≡ old.before) × ((ms' : Members) × (new.kept ≡ Some ms') × (put_member n required kind t ms ≡ Some ms'))) (λ e. Withholds e (put_member n required kind t ms) (holds_invalid t))
    → WritesRow RowPrinted (printed_or_error old) n required kind t (printed_or_error new)
gathered_by old new n kind t ms None kept first k h =
    row_added old new n required kind t first k
    (put_added old new n ms h.2.0 (row_data required kind t) kept h.2.1 h.1 h.0 (row_put n required kind t ms h.2.0 h.2.2) (never_left_out (write kind t)))
gathered_by old new n kind t ms (Some e) kept first k h = row_fails old new n required kind t e first k (withheld_put e n required kind t ms (holds_invalid t) h)

gathered_after : (old new : Printed) (n : List ℕ) (kind : Kind) (t : Tree) (ms : Members) (f : Option Error) → old.failed ≡ f → old.kept ≡ Some ms
    → Gathers old n kind t new → WritesRow RowPrinted (printed_or_error old) n required kind t (printed_or_error new)
gathered_after old new n kind t ms None first kept h =
    gathered_by old new n kind t ms new.failed kept first refl (MatchOption-at_some _ _ ms kept (MatchOption-at_none _ _ first h.is))
gathered_after old new n kind t ms (Some e) first kept h =
    after_failure old new n required kind t e first (MatchOption-at_some _ _ e first h.is)

-- a row is put into the members that are gathered
pub row_gathered : (old new : Printed) (n : List ℕ) (kind : Kind) (t : Tree) (ms : Members) → old.kept ≡ Some ms
    → Gathers old n kind t new → WritesRow RowPrinted (printed_or_error old) n required kind t (printed_or_error new)
row_gathered old new n kind t ms kept h = gathered_after old new n kind t ms old.failed refl kept h

-- nothing is gathered
pub not_gathered : {A B : Type 0} (f : A → B) (k : Option A) → false ≡ is_some k → option_map f k ≡ None
not_gathered {A} {B} f None h = refl
not_gathered {A} {B} f (Some x) h = absurd (false≢true h)

-- what is gathered
pub is_gathered : {A B : Type 0} (f : A → B) (k : Option A) → true ≡ is_some k → (x : B) × (option_map f k ≡ Some x)
is_gathered {A} {B} f None h = absurd (true≢false h)
is_gathered {A} {B} f (Some x) h = (f x, refl)
