-- A row that is put into members, as a step of rows.
use Rattle.std.proofs.Common.{◌≡◌, ◌⊎◌, inl, inr, ℕ, Bool, true, false, List, Option, Some, None, option_map, Result, Ok, Err, refl, sym, ap, ◌∙◌, subst, if◌then◌else◌, String}
use Rattle.serde_json.specs.Data.{Data, Members, no_members, put}
use Rattle.serde_json.specs.View.{members_view}
use Rattle.std.specs.BTreeMap.{BTreeMap}
use Rattle.std.specs.declared.alloc.Global.{Global}
use Rattle.serde_json.specs.declared.value.Value.{Value}
use Rattle.gltf_base.specs.declared.error.Error.{Error}
use Rattle.gltf_base.specs.declared.error.Error.TheVariants as errors
use Rattle.gltf_schema.specs.Outcome.{Writes, Withholds}
use Rattle.gltf_schema.specs.Tree.{Tree, Trees, end, with_tree}
use Rattle.gltf_schema.specs.Kind.{Mark, Kind, Rows, no_rows, row}
use Rattle.gltf_schema.specs.Writings.{written_or_error}
use Rattle.std.proofs.lemmas.Bool.{or_left, or_right}
use Rattle.gltf_schema.proofs.Putting.{withheld_through, withheld_then, withheld_anyway}
use Rattle.gltf_schema.specs.ByName.{row_data}
use Rattle.gltf_schema.specs.Invalid.{holds_invalid, any_holds_invalid}
use Rattle.gltf_schema.specs.Maybe.{◌>>=◌}
use Rattle.gltf_schema.specs.Write.{write, leaves_out, written, write_rows}
use Rattle.gltf_schema.specs.Put.{put_member, put_rows, some_invalid}
use Rattle.gltf_schema.specs.Rowwise.{RowAdded, RowOnto, WritesRow, RowsOnto, OthersOnto, WritesMembers, PutsIn, TakesOver}

some_put : (n : List ℕ) (d : Option Data) (ms ms' : Members) → option_map (λ x. put n x ms) d ≡ Some ms' → RowAdded PutsIn ms n (option_map Some d) ms'
some_put n None ms ms' h = cc
some_put n (Some d) ms ms' h = let same : put n d ms ≡ ms' = cc in sym same

choice_put : (left : Bool) (n : List ℕ) (d : Option Data) (ms ms' : Members)
    → (if left then Some ms else option_map (λ x. put n x ms) d) ≡ Some ms' → RowAdded PutsIn ms n (if left then Some None else option_map Some d) ms'
choice_put true n d ms ms' h = let same : ms ≡ ms' = cc in sym same
choice_put false n d ms ms' h = some_put n d ms ms' h

none_put : (left : Bool) (n : List ℕ) (d : Option Data) (ms : Members)
    → (if left then Some ms else option_map (λ x. put n x ms) d) ≡ None → (if left then Some None else option_map Some d) ≡ None
none_put true n d ms h = cc
none_put false n None ms h = refl
none_put false n (Some d) ms h = cc

pub withheld_put : (e : Error) (n : List ℕ) (mark : Mark) (kind : Kind) (t : Tree) (ms : Members) (b : Bool)
    → Withholds e (put_member n mark kind t ms) b → Withholds e (row_data mark kind t) b
unfolding put_member
withheld_put (errors.Memory e) n mark kind t ms b h = h
withheld_put errors.InvalidItem n mark kind t ms b h = (none_put (leaves_out mark t) n (written mark (write kind) t) ms h.0, h.1)
withheld_put _ n mark kind t ms b h = absurd h

-- the members of a row's put are those of its step
pub row_put : (n : List ℕ) (mark : Mark) (kind : Kind) (t : Tree) (ms ms' : Members) → put_member n mark kind t ms ≡ Some ms' → RowAdded PutsIn ms n (row_data mark kind t) ms'
unfolding put_member
row_put n mark kind t ms ms' h = choice_put (leaves_out mark t) n (written mark (write kind) t) ms ms' h

-- a row was put into the members that are there
pub put_goes_on : {s : Result Members Error} {n : List ℕ} {mark : Mark} {kind : Kind} {t : Tree} {ms ms' : Members}
    → s ≡ Ok ms → put_member n mark kind t ms ≡ Some ms' → WritesRow PutsIn s n mark kind t (Ok ms')
put_goes_on {s} {n} {mark} {kind} {t} {ms} {ms'} is h = rw is (record { is = row_put n mark kind t ms ms' h })

-- a row was refused
pub put_fails : {s : Result Members Error} {n : List ℕ} {mark : Mark} {kind : Kind} {t : Tree} {ms : Members} {e : Error}
    → s ≡ Ok ms → Withholds e (put_member n mark kind t ms) (holds_invalid t) → WritesRow PutsIn s n mark kind t (Err e)
put_fails {s} {n} {mark} {kind} {t} {ms} {e} is h = rw is (record { is = withheld_put e n mark kind t ms (holds_invalid t) h })

-- ---- each row, onto the members that are there

put_added : (left : Bool) (n : List ℕ) (d : Option Data) (ms ms' : Members)
    → RowAdded PutsIn ms n (if left then Some None else option_map Some d) ms' → (if left then Some ms else option_map (λ x. put n x ms) d) ≡ Some ms'
put_added true n d ms ms' h = ap Some (sym h)
put_added false n None ms ms' h = absurd h
put_added false n (Some d) ms ms' h = ap Some (sym h)

put_none : (left : Bool) (n : List ℕ) (d : Option Data) (ms : Members)
    → (if left then Some None else option_map Some d) ≡ None → (if left then Some ms else option_map (λ x. put n x ms) d) ≡ None
put_none true n d ms h = cc
put_none false n None ms h = refl
put_none false n (Some d) ms h = cc

pub member_put : (n : List ℕ) (mark : Mark) (kind : Kind) (t : Tree) (ms ms' : Members) → RowAdded PutsIn ms n (row_data mark kind t) ms' → put_member n mark kind t ms ≡ Some ms'
unfolding put_member
member_put n mark kind t ms ms' h = put_added (leaves_out mark t) n (written mark (write kind) t) ms ms' h

member_withheld : (e : Error) (n : List ℕ) (mark : Mark) (kind : Kind) (t : Tree) (ms : Members) (b : Bool)
    → Withholds e (row_data mark kind t) b → Withholds e (put_member n mark kind t ms) b
unfolding put_member
member_withheld (errors.Memory e) n mark kind t ms b h = h
member_withheld errors.InvalidItem n mark kind t ms b h = (put_none (leaves_out mark t) n (written mark (write kind) t) ms h.0, h.1)
member_withheld _ n mark kind t ms b h = absurd h

pub none_put_in : (ms : Members) → put_rows no_rows end ms ≡ Some ms
unfolding put_rows
none_put_in ms = refl

pub row_put_in : (n : List ℕ) (mark : Mark) (kind : Kind) (rows : Rows) (t : Tree) (ts : Trees) (ms ms' : Members)
    → put_member n mark kind t ms ≡ Some ms' → put_rows (row n mark kind rows) (with_tree t ts) ms ≡ put_rows rows ts ms'
unfolding put_rows put_member
row_put_in n mark kind rows t ts ms ms' h = ap (λ o. o >>= write_rows rows ts) h

row_withheld : (e : Error) (n : List ℕ) (mark : Mark) (kind : Kind) (rows : Rows) (t : Tree) (ts : Trees) (ms : Members)
    → Withholds e (put_member n mark kind t ms) (holds_invalid t) → Withholds e (put_rows (row n mark kind rows) (with_tree t ts) ms) (some_invalid (with_tree t ts))
unfolding put_rows put_member some_invalid
row_withheld e n mark kind rows t ts ms h = withheld_then e (write_rows rows ts) _ (holds_invalid t) _ (or_left (holds_invalid t) (any_holds_invalid ts)) h

later_withheld : (e : Error) (n : List ℕ) (mark : Mark) (kind : Kind) (rows : Rows) (t : Tree) (ts : Trees) (ms ms' : Members) → put_member n mark kind t ms ≡ Some ms'
    → Withholds e (put_rows rows ts ms') (some_invalid ts) → Withholds e (put_rows (row n mark kind rows) (with_tree t ts) ms) (some_invalid (with_tree t ts))
unfolding some_invalid
later_withheld e n mark kind rows t ts ms ms' put h =
    withheld_through e (put_rows rows ts ms') (put_rows (row n mark kind rows) (with_tree t ts) ms) (any_holds_invalid ts) _
    (λ g. (row_put_in n mark kind rows t ts ms ms' put ∙ g.0, or_right (holds_invalid t) _ g.1)) h

later_put : (new : Result Members Error) (n : List ℕ) (mark : Mark) (kind : Kind) (rows : Rows) (t : Tree) (ts : Trees) (ms ms' : Members) → put_member n mark kind t ms ≡ Some ms'
    → Writes (λ m. m) new (put_rows rows ts ms') (some_invalid ts) → Writes (λ m. m) new (put_rows (row n mark kind rows) (with_tree t ts) ms) (some_invalid (with_tree t ts))
later_put (Ok rest) n mark kind rows t ts ms ms' put h = row_put_in n mark kind rows t ts ms ms' put ∙ h
later_put (Err e) n mark kind rows t ts ms ms' put h = later_withheld e n mark kind rows t ts ms ms' put h

-- what failed before stays
pub rows_stay_failed : {S : Type 0} (Adds : S → List ℕ → Data → S → Type 0) (e : Error) (rows : Rows) (ts : Trees) (new : Result S Error) → RowsOnto Adds (Err e) rows ts new → new ≡ Err e
rows_stay_failed {S} Adds e no_rows end new h = h
rows_stay_failed {S} Adds e no_rows (with_tree t ts) new h = absurd h
rows_stay_failed {S} Adds e (row n mark kind rows) end new h = absurd h
rows_stay_failed {S} Adds e (row n mark kind rows) (with_tree t ts) new h =
    rows_stay_failed Adds e rows ts new (subst (λ (r : Result S Error). RowsOnto Adds r rows ts new) h.1 h.2)

-- rows put into members that are there, or a state that failed
abbrev RowsPutInto : Result Members Error → Rows → Trees → Result Members Error → Type 0
RowsPutInto (Ok ms) rows ts new = Writes (λ m. m) new (put_rows rows ts ms) (some_invalid ts)
RowsPutInto (Err e) rows ts new = new ≡ Err e

both_put : (old mid new : Result Members Error) (n : List ℕ) (mark : Mark) (kind : Kind) (t : Tree) (rows : Rows) (ts : Trees) → RowOnto PutsIn old n mark kind t mid
    → RowsPutInto mid rows ts new → RowsPutInto old (row n mark kind rows) (with_tree t ts) new
both_put (Ok ms) (Ok ms') new n mark kind t rows ts h k = later_put new n mark kind rows t ts ms ms' (member_put n mark kind t ms ms' h) k
both_put (Ok ms) (Err e) new n mark kind t rows ts h k =
    subst (λ (r : Result Members Error). Writes (λ m. m) r (put_rows (row n mark kind rows) (with_tree t ts) ms) (some_invalid (with_tree t ts)))
    (sym k) (row_withheld e n mark kind rows t ts ms (member_withheld e n mark kind t ms (holds_invalid t) h))
both_put (Err e) mid new n mark kind t rows ts h k = subst (λ (r : Result Members Error). RowsPutInto r rows ts new) h k

none_put_into : (s new : Result Members Error) → new ≡ s → RowsPutInto s no_rows end new
none_put_into (Ok ms) new h = rw h (none_put_in ms)
none_put_into (Err e) new h = h

rows_put_into : (old : Result Members Error) (rows : Rows) (ts : Trees) (new : Result Members Error) → RowsOnto PutsIn old rows ts new → RowsPutInto old rows ts new
rows_put_into old no_rows end new h = none_put_into old new h
rows_put_into old no_rows (with_tree t ts) new h = absurd h
rows_put_into old (row n mark kind rows) end new h = absurd h
rows_put_into old (row n mark kind rows) (with_tree t ts) new h = both_put old h.0 new n mark kind t rows ts h.1 (rows_put_into h.0 rows ts new h.2)

rows_put : (ms : Members) (rows : Rows) (ts : Trees) (new : Result Members Error) → RowsOnto PutsIn (Ok ms) rows ts new → Writes (λ m. m) new (put_rows rows ts ms) (some_invalid ts)
rows_put ms rows ts new h = rows_put_into (Ok ms) rows ts new h

onto_others : (others : Members) (mid new : Result Members Error) (rows : Rows) (ts : Trees) → OthersOnto TakesOver others (Ok no_members) mid
    → RowsOnto PutsIn mid rows ts new → Writes (λ m. m) new (put_rows rows ts others) (some_invalid ts)
onto_others others (Ok ms) new rows ts h k = subst (λ m. Writes (λ x. x) new (put_rows rows ts m) (some_invalid ts)) h (rows_put ms rows ts new k)
onto_others others (Err e) new rows ts h k =
    subst (λ (r : Result Members Error). Writes (λ m. m) r (put_rows rows ts others) (some_invalid ts)) (sym (rows_stay_failed PutsIn e rows ts new k)) (withheld_anyway e (Some others) _ _ h)

begun_with : (others : Members) (mid new : Result Members Error) (rows : Rows) (ts : Trees) → ((others ≡ no_members) × (mid ≡ Ok no_members)) ⊎ OthersOnto TakesOver others (Ok no_members) mid
    → RowsOnto PutsIn mid rows ts new → Writes (λ m. m) new (put_rows rows ts others) (some_invalid ts)
begun_with others mid new rows ts (inl h) k =
    rw h.0 (rows_put no_members rows ts new (subst (λ (r : Result Members Error). RowsOnto PutsIn r rows ts new) h.1 k))
begun_with others mid new rows ts (inr h) k = onto_others others mid new rows ts h k

members_written : (r : Result (BTreeMap (String Global) Value) Error) (written : Option Members) (b : Bool)
    → Writes (λ m. m) (written_or_error r) written b → Writes (λ (m : BTreeMap (String Global) Value). members_view m.entries) r written b
members_written (Ok m) written b h = h
members_written (Err e) written b h = h

-- the members of an object are each row's, put onto the others
pub all_put : (others : Members) (r : Result (BTreeMap (String Global) Value) Error) (s s' : Result Members Error) (rows : Rows) (ts : Trees)
    → s ≡ Ok no_members → WritesMembers TakesOver PutsIn others rows ts s s' → written_or_error r ≡ s' → Writes (λ (m : BTreeMap (String Global) Value). members_view m.entries) r (put_rows rows ts others) (some_invalid ts)
all_put others r s s' rows ts first h ended =
    let begins = subst (λ (x : Result Members Error). ((others ≡ no_members) × (h.begun ≡ x)) ⊎ OthersOnto TakesOver others x h.begun) first h.begins in
    members_written r _ _ (subst (λ (x : Result Members Error). Writes (λ m. m) x (put_rows rows ts others) (some_invalid ts)) (sym ended) (begun_with others h.begun s' rows ts begins h.rows_onto))
