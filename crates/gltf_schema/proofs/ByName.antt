-- Rows in the order of their names write the members that rows in the table's order write.
use Rattle.std.proofs.Common.{◌≡◌, ℕ, List, Bool, true, false, ◌&&◌, ◌||◌, not, Option, Some, None, option_map, bytes_eq, nat_cmp, refl, sym, ap, ◌∙◌, subst, true≢false, Ordering, Less, Equal, Greater, if◌then◌else◌}
use Rattle.std.specs.Prelude.{⊤}
use Rattle.std.proofs.lemmas.Bool.{not-true, and_parts, or_parts, or_left}
use Rattle.std.proofs.lemmas.Cmp.{nat_list_cmp_total}
use Rattle.std.proofs.lemmas.Slice.Eq.{bytes_eq-Decides}
use Rattle.std.specs.Cmp.Lexicographic.{slice_cmp}
use Rattle.std.specs.Ordering.{match_ordering}
use Rattle.serde_json.specs.Data.{Data, Members, no_members, member, put}
use Rattle.gltf_schema.specs.ByName.{insert_row, by_name, insert_tree, trees_by_name, row_data, row_members}
use Rattle.gltf_schema.specs.Invalid.{holds_invalid, any_holds_invalid}
use Rattle.gltf_schema.specs.Kind.{Mark, Kind, Object, Rows, no_rows, row, has_row, Rule}
use Rattle.gltf_schema.specs.Maybe.{◌>>=◌}
use Rattle.gltf_schema.specs.Put.{put_rows, some_invalid}
use Rattle.gltf_schema.specs.Sound.{is_sound, are_sound}
use Rattle.gltf_schema.specs.Tree.{Tree, Trees, end, with_tree}
use Rattle.gltf_schema.specs.Write.{write, leaves_out, written, write_member, write_rows}
use Rattle.gltf_schema.proofs.InOrder.{greater_less, puts_swap, put_all, NamesAbove, InOrder, put_in_order}
use Rattle.gltf_schema.proofs.PuttingIn.{same_name}
use Rattle.gltf_schema.proofs.TakingOut.{sound_row, sound_rows}

-- ---- rows of different names

-- no row has the name of a later one
abbrev pub are_distinct : Rows → Bool
are_distinct no_rows = true
are_distinct (row n mark kind rows) = not (has_row n rows) && are_distinct rows

pub sound_distinct : (rows : Rows) → are_sound rows ≡ true → are_distinct rows ≡ true
sound_distinct no_rows h = refl
sound_distinct (row n mark kind rows) h =
    let line = sound_row n mark kind rows h in
    rw (line.apart, sound_distinct rows line.rest) refl

pub sound_object_distinct : (rule : Rule) (rows : Rows) (keeps : Bool) → is_sound (Object rule rows keeps) ≡ true → are_distinct rows ≡ true
sound_object_distinct rule rows keeps h = sound_distinct rows (sound_rows rule rows h)

-- ---- two rows written one after the other

same_then : {A B : Type 0} (o : Option A) (f g : A → Option B) → ((x : A) → f x ≡ g x) → (o >>= f) ≡ (o >>= g)
same_then None f g same = refl
same_then (Some x) f g same = same x

none_then : {A B : Type 0} (o : Option A) (f : A → Option B) → ((x : A) → f x ≡ None) → (o >>= f) ≡ None
none_then None f none = refl
none_then (Some x) f none = none x

-- a member that is put in, unless it is left out
abbrev step : List ℕ → Bool → Option Data → Members → Option Members
step n left_out o ms = if left_out then Some ms else option_map (λ d. put n d ms) o

steps_swap : (n m : List ℕ) (b c : Bool) (o p : Option Data) (rest : Members → Option Members) (ms : Members) → slice_cmp nat_cmp m n ≡ Less
    → (step m c p ms >>= λ x. step n b o x >>= rest) ≡ (step n b o ms >>= λ x. step m c p x >>= rest)
steps_swap n m true c o p rest ms less = refl
steps_swap n m false true None p rest ms less = refl
steps_swap n m false false None None rest ms less = refl
steps_swap n m false false None (Some e) rest ms less = refl
steps_swap n m false true (Some d) p rest ms less = refl
steps_swap n m false false (Some d) None rest ms less = refl
steps_swap n m false false (Some d) (Some e) rest ms less = ap rest (sym (puts_swap m n e d ms less))

-- ---- rows in the order of their names

none_inserted_at : (o : Ordering) (n l : List ℕ) (mark m : Mark) (kind k : Kind) (rows : Rows) (ms : Members)
    → write_rows (match_ordering o (row n mark kind (row l m k rows)) (row n mark kind (row l m k rows)) (row l m k (insert_row n mark kind rows))) end ms ≡ None
none_inserted_at Less n l mark m kind k rows ms = refl
none_inserted_at Equal n l mark m kind k rows ms = refl
none_inserted_at Greater n l mark m kind k rows ms = refl

-- rows that have no trees are not written
none_inserted : (n : List ℕ) (mark : Mark) (kind : Kind) (rows : Rows) (ms : Members) → write_rows (insert_row n mark kind rows) end ms ≡ None
none_inserted n mark kind no_rows ms = refl
none_inserted n mark kind (row l m k rows) ms = none_inserted_at (slice_cmp nat_cmp n l) n l mark m kind k rows ms

-- a row is written as if it came first
abbrev Inserted : List ℕ → Mark → Kind → Tree → Rows → Trees → Type 0
Inserted n mark kind t rows ts = (ms : Members) → write_rows (insert_row n mark kind rows) (insert_tree n t rows ts) ms ≡ (write_member n mark (write kind) t ms >>= write_rows rows ts)

inserted_short : (o : Ordering) (n l : List ℕ) (mark m : Mark) (kind k : Kind) (t : Tree) (rows : Rows) → slice_cmp nat_cmp n l ≡ o → Inserted n mark kind t (row l m k rows) end
inserted_short Less n l mark m kind k t rows is ms = rw is refl
inserted_short Equal n l mark m kind k t rows is ms = rw is refl
inserted_short Greater n l mark m kind k t rows is ms =
    rw is (none_then (write_member l m (write k) t ms) _ (none_inserted n mark kind rows) ∙ sym (none_then (write_member n mark (write kind) t ms) _ (λ x. refl)))

inserted_at : (o : Ordering) (n l : List ℕ) (mark m : Mark) (kind k : Kind) (t u : Tree) (rows : Rows) (ts : Trees) → slice_cmp nat_cmp n l ≡ o
    → Inserted n mark kind t rows ts → Inserted n mark kind t (row l m k rows) (with_tree u ts)
inserted_at Less n l mark m kind k t u rows ts is later ms = rw is refl
inserted_at Equal n l mark m kind k t u rows ts is later ms = rw is refl
inserted_at Greater n l mark m kind k t u rows ts is later ms =
    let swapped = steps_swap n l (leaves_out mark t) (leaves_out m u) (written mark (write kind) t) (written m (write k) u) (write_rows rows ts) ms (greater_less n l is) in
    rw is (same_then (write_member l m (write k) u ms) _ _ later ∙ swapped)

inserted : (n : List ℕ) (mark : Mark) (kind : Kind) (t : Tree) (rows : Rows) (ts : Trees) → Inserted n mark kind t rows ts
inserted n mark kind t no_rows ts ms = refl
inserted n mark kind t (row l m k rows) end ms = inserted_short (slice_cmp nat_cmp n l) n l mark m kind k t rows refl ms
inserted n mark kind t (row l m k rows) (with_tree u ts) ms = inserted_at (slice_cmp nat_cmp n l) n l mark m kind k t u rows ts refl (inserted n mark kind t rows ts) ms

all_inserted : (rows : Rows) (ts : Trees) (ms : Members) → write_rows (by_name rows) (trees_by_name rows ts) ms ≡ write_rows rows ts ms
all_inserted no_rows ts ms = refl
all_inserted (row n mark kind rows) end ms = none_inserted n mark kind (by_name rows) ms
all_inserted (row n mark kind rows) (with_tree t ts) ms =
    inserted n mark kind t (by_name rows) (trees_by_name rows ts) ms ∙ same_then (write_member n mark (write kind) t ms) _ _ (all_inserted rows ts)

-- rows can be written in the order of their names
pub put_by_name : (rows : Rows) (ts : Trees) (ms : Members) → put_rows (by_name rows) (trees_by_name rows ts) ms ≡ put_rows rows ts ms
unfolding put_rows
put_by_name rows ts ms = all_inserted rows ts ms

-- ---- what is invalid in them

swap_or : (a b c : Bool) → (b || (a || c)) ≡ (a || (b || c))
swap_or true true c = refl
swap_or true false c = refl
swap_or false b c = refl

invalid_inserted_at : (o : Ordering) (n : List ℕ) (t u : Tree) (rows : Rows) (ts : Trees) → any_holds_invalid (insert_tree n t rows ts) ≡ (holds_invalid t || any_holds_invalid ts)
    → any_holds_invalid (match_ordering o (with_tree t (with_tree u ts)) (with_tree t (with_tree u ts)) (with_tree u (insert_tree n t rows ts))) ≡ (holds_invalid t || any_holds_invalid (with_tree u ts))
invalid_inserted_at Less n t u rows ts later = refl
invalid_inserted_at Equal n t u rows ts later = refl
invalid_inserted_at Greater n t u rows ts later = ap (λ b. holds_invalid u || b) later ∙ swap_or (holds_invalid t) (holds_invalid u) (any_holds_invalid ts)

invalid_inserted : (n : List ℕ) (t : Tree) (rows : Rows) (ts : Trees) → any_holds_invalid (insert_tree n t rows ts) ≡ (holds_invalid t || any_holds_invalid ts)
invalid_inserted n t no_rows ts = refl
invalid_inserted n t (row l m k rows) end = refl
invalid_inserted n t (row l m k rows) (with_tree u ts) = invalid_inserted_at (slice_cmp nat_cmp n l) n t u rows ts (invalid_inserted n t rows ts)

any_invalid_by_name : (rows : Rows) (ts : Trees) → any_holds_invalid (trees_by_name rows ts) ≡ any_holds_invalid ts
any_invalid_by_name no_rows ts = refl
any_invalid_by_name (row n mark kind rows) end = refl
any_invalid_by_name (row n mark kind rows) (with_tree t ts) =
    invalid_inserted n t (by_name rows) (trees_by_name rows ts) ∙ ap (λ b. holds_invalid t || b) (any_invalid_by_name rows ts)

-- trees in that order hold what is invalid in them
pub invalid_by_name : (rows : Rows) (ts : Trees) → some_invalid (trees_by_name rows ts) ≡ some_invalid ts
unfolding some_invalid
invalid_by_name rows ts = any_invalid_by_name rows ts

-- ---- the order

-- each name is greater than k
abbrev RowsAbove : List ℕ → Rows → Type 0
RowsAbove k no_rows = ⊤
RowsAbove k (row n mark kind rows) = (slice_cmp nat_cmp k n ≡ Less) × RowsAbove k rows

abbrev RowsInOrder : Rows → Type 0
RowsInOrder no_rows = ⊤
RowsInOrder (row n mark kind rows) = RowsAbove n rows × RowsInOrder rows

lower : (j k : List ℕ) (rows : Rows) → slice_cmp nat_cmp j k ≡ Less → RowsAbove k rows → RowsAbove j rows
lower j k no_rows less above = tt
lower j k (row n mark kind rows) less above = (nat_list_cmp_total.trans j k n less above.0, lower j k rows less above.1)

above_at : (o : Ordering) (j n l : List ℕ) (mark m : Mark) (kind k : Kind) (rows : Rows) → slice_cmp nat_cmp j n ≡ Less → RowsAbove j (row l m k rows) → RowsAbove j (insert_row n mark kind rows)
    → RowsAbove j (match_ordering o (row n mark kind (row l m k rows)) (row n mark kind (row l m k rows)) (row l m k (insert_row n mark kind rows)))
above_at Less j n l mark m kind k rows less above later = (less, above)
above_at Equal j n l mark m kind k rows less above later = (less, above)
above_at Greater j n l mark m kind k rows less above later = (above.0, later)

above_inserted : (j n : List ℕ) (mark : Mark) (kind : Kind) (rows : Rows) → slice_cmp nat_cmp j n ≡ Less → RowsAbove j rows → RowsAbove j (insert_row n mark kind rows)
above_inserted j n mark kind no_rows less above = (less, tt)
above_inserted j n mark kind (row l m k rows) less above = above_at (slice_cmp nat_cmp n l) j n l mark m kind k rows less above (above_inserted j n mark kind rows less above.1)

order_at : (o : Ordering) (n l : List ℕ) (mark m : Mark) (kind k : Kind) (rows : Rows) → slice_cmp nat_cmp n l ≡ o → has_row n (row l m k rows) ≡ false → RowsInOrder (row l m k rows)
    → RowsInOrder (insert_row n mark kind rows) → RowsInOrder (match_ordering o (row n mark kind (row l m k rows)) (row n mark kind (row l m k rows)) (row l m k (insert_row n mark kind rows)))
order_at Less n l mark m kind k rows is apart order later = ((is, lower n l rows is order.0), order)
order_at Equal n l mark m kind k rows is apart order later =
    absurd (true≢false (sym (or_left (bytes_eq l n) (has_row n rows) ((bytes_eq-Decides l n).1 (sym (same_name n l is)))) ∙ apart))
order_at Greater n l mark m kind k rows is apart order later = (above_inserted l n mark kind rows (greater_less n l is) order.0, later)

order_inserted : (n : List ℕ) (mark : Mark) (kind : Kind) (rows : Rows) → has_row n rows ≡ false → RowsInOrder rows → RowsInOrder (insert_row n mark kind rows)
order_inserted n mark kind no_rows apart order = (tt, tt)
order_inserted n mark kind (row l m k rows) apart order =
    order_at (slice_cmp nat_cmp n l) n l mark m kind k rows refl apart order (order_inserted n mark kind rows (or_parts (bytes_eq l n) (has_row n rows) apart).1 order.1)

has_at : (o : Ordering) (q n l : List ℕ) (mark m : Mark) (kind k : Kind) (rows : Rows) → has_row q (insert_row n mark kind rows) ≡ (bytes_eq n q || has_row q rows)
    → has_row q (match_ordering o (row n mark kind (row l m k rows)) (row n mark kind (row l m k rows)) (row l m k (insert_row n mark kind rows))) ≡ (bytes_eq n q || has_row q (row l m k rows))
has_at Less q n l mark m kind k rows later = refl
has_at Equal q n l mark m kind k rows later = refl
has_at Greater q n l mark m kind k rows later = ap (λ b. bytes_eq l q || b) later ∙ swap_or (bytes_eq n q) (bytes_eq l q) (has_row q rows)

has_inserted : (q n : List ℕ) (mark : Mark) (kind : Kind) (rows : Rows) → has_row q (insert_row n mark kind rows) ≡ (bytes_eq n q || has_row q rows)
has_inserted q n mark kind no_rows = refl
has_inserted q n mark kind (row l m k rows) = has_at (slice_cmp nat_cmp n l) q n l mark m kind k rows (has_inserted q n mark kind rows)

-- the names are the same
has_by_name : (q : List ℕ) (rows : Rows) → has_row q (by_name rows) ≡ has_row q rows
has_by_name q no_rows = refl
has_by_name q (row n mark kind rows) = has_inserted q n mark kind (by_name rows) ∙ ap (λ b. bytes_eq n q || b) (has_by_name q rows)

order_by_name : (rows : Rows) → are_distinct rows ≡ true → RowsInOrder (by_name rows)
order_by_name no_rows h = tt
order_by_name (row n mark kind rows) h =
    let parts = and_parts (not (has_row n rows)) (are_distinct rows) h in
    order_inserted n mark kind (by_name rows) (has_by_name n rows ∙ not-true _ parts.0) (order_by_name rows parts.1)

-- ---- the members that rows write

-- the members with one before them, if there is one
abbrev pub maybe_before : List ℕ → Option Data → Members → Members
maybe_before n None ds = ds
maybe_before n (Some d) ds = member n d ds

-- the members with a row's before them, unless it is left out
abbrev step_before : List ℕ → Bool → Option Data → Option Members → Option Members
step_before n left_out o r = if left_out then r else (o >>= λ d. option_map (member n d) r)

above_step : (j n : List ℕ) (left_out : Bool) (o : Option Data) (r : Option Members) (ds : Members) → slice_cmp nat_cmp j n ≡ Less
    → ((es : Members) → r ≡ Some es → NamesAbove j es) → step_before n left_out o r ≡ Some ds → NamesAbove j ds
above_step j n true o r ds less later h = later ds h
above_step j n false None r ds less later h = absurd cc
above_step j n false (Some d) None ds less later h = absurd cc
above_step j n false (Some d) (Some es) ds less later h =
    let is : member n d es ≡ ds = cc in
    subst (NamesAbove j) is (less, later es refl)

members_above : (j : List ℕ) (rows : Rows) (ts : Trees) (ds : Members) → RowsAbove j rows → row_members rows ts ≡ Some ds → NamesAbove j ds
members_above j no_rows end ds above h = let is : no_members ≡ ds = cc in subst (NamesAbove j) is tt
members_above j no_rows (with_tree t ts) ds above h = absurd cc
members_above j (row n mark kind rows) end ds above h = absurd cc
members_above j (row n mark kind rows) (with_tree t ts) ds above h =
    above_step j n (leaves_out mark t) (written mark (write kind) t) (row_members rows ts) ds above.0 (λ es. members_above j rows ts es above.1) h

order_step : (n : List ℕ) (left_out : Bool) (o : Option Data) (r : Option Members) (ds : Members)
    → ((es : Members) → r ≡ Some es → NamesAbove n es × InOrder es) → step_before n left_out o r ≡ Some ds → InOrder ds
order_step n true o r ds later h = (later ds h).1
order_step n false None r ds later h = absurd cc
order_step n false (Some d) None ds later h = absurd cc
order_step n false (Some d) (Some es) ds later h =
    let is : member n d es ≡ ds = cc in
    subst InOrder is (later es refl)

-- rows in order write members in order
members_in_order : (rows : Rows) (ts : Trees) (ds : Members) → RowsInOrder rows → row_members rows ts ≡ Some ds → InOrder ds
members_in_order no_rows end ds order h = let is : no_members ≡ ds = cc in subst InOrder is tt
members_in_order no_rows (with_tree t ts) ds order h = absurd cc
members_in_order (row n mark kind rows) end ds order h = absurd cc
members_in_order (row n mark kind rows) (with_tree t ts) ds order h =
    order_step n (leaves_out mark t) (written mark (write kind) t) (row_members rows ts) ds (λ es is. (members_above n rows ts es order.0 is, members_in_order rows ts es order.1 is)) h

put_step : (n : List ℕ) (left_out : Bool) (o : Option Data) (r : Option Members) (rest : Members → Option Members) (ms : Members)
    → ((xs : Members) → rest xs ≡ option_map (λ ds. put_all ds xs) r) → (step n left_out o ms >>= rest) ≡ option_map (λ ds. put_all ds ms) (step_before n left_out o r)
put_step n true o r rest ms later = later ms
put_step n false None r rest ms later = refl
put_step n false (Some d) None rest ms later = later (put n d ms)
put_step n false (Some d) (Some es) rest ms later = later (put n d ms)

-- rows put in the members that they write
members_put : (rows : Rows) (ts : Trees) (ms : Members) → write_rows rows ts ms ≡ option_map (λ ds. put_all ds ms) (row_members rows ts)
members_put no_rows end ms = refl
members_put no_rows (with_tree t ts) ms = refl
members_put (row n mark kind rows) end ms = refl
members_put (row n mark kind rows) (with_tree t ts) ms =
    put_step n (leaves_out mark t) (written mark (write kind) t) (row_members rows ts) (write_rows rows ts) ms (members_put rows ts)

-- what rows write in the order of their names is what they write, and is in order
pub members_by_name : (rows : Rows) (ts : Trees) (ds : Members) → are_distinct rows ≡ true
    → row_members (by_name rows) (trees_by_name rows ts) ≡ Some ds → (put_rows rows ts no_members ≡ Some ds) × InOrder ds
unfolding put_rows
members_by_name rows ts ds distinct h =
    let order = members_in_order (by_name rows) (trees_by_name rows ts) ds (order_by_name rows distinct) h in
    let put = members_put (by_name rows) (trees_by_name rows ts) no_members ∙ ap (option_map (λ es. put_all es no_members)) h in
    (sym (all_inserted rows ts no_members) ∙ put ∙ ap Some (put_in_order ds order), order)

-- rows that write nothing in that order write nothing
pub none_by_name : (rows : Rows) (ts : Trees) (ms : Members) → row_members (by_name rows) (trees_by_name rows ts) ≡ None → put_rows rows ts ms ≡ None
unfolding put_rows
none_by_name rows ts ms h =
    sym (all_inserted rows ts ms) ∙ members_put (by_name rows) (trees_by_name rows ts) ms ∙ ap (option_map (λ ds. put_all ds ms)) h

-- ---- the members of one row more

data_before : (n : List ℕ) (left_out : Bool) (o : Option Data) (r : Option Members) (x : Option (Option Data)) → (if left_out then Some None else option_map Some o) ≡ x
    → step_before n left_out o r ≡ (x >>= λ y. option_map (λ ds. maybe_before n y ds) r)
data_before n true o None x is = rw (← is) refl
data_before n true o (Some ds) x is = rw (← is) refl
data_before n false None r x is = rw (← is) refl
data_before n false (Some d) r x is = rw (← is) refl

-- they begin with what the row writes, and there are none if it writes nothing valid
pub row_before : (n : List ℕ) (mark : Mark) (kind : Kind) (t : Tree) (rows : Rows) (ts : Trees) (x : Option (Option Data)) → row_data mark kind t ≡ x
    → row_members (row n mark kind rows) (with_tree t ts) ≡ (x >>= λ y. option_map (λ ds. maybe_before n y ds) (row_members rows ts))
row_before n mark kind t rows ts x is = data_before n (leaves_out mark t) (written mark (write kind) t) (row_members rows ts) x is
