-- Rows read one after another by a driver that keeps the place of what is refused: it is that of the
-- first row that refuses its member.
use Rattle.std.proofs.Common.{◌≡◌, ◌==◌, ℕ, suc, List, [], ◌∷◌, length, Bool, true, false, Option, Some, None, option_map, is_none, if◌then◌else◌, map, Vec, Global, Result, Ok, Err, bytes_eq, refl, sym, ap, ◌∙◌, subst}
use Rattle.std.proofs.lemmas.Bool.{or_parts}
use Rattle.std.specs.BTreeMap.{insert_entry}
use Rattle.serde_json.specs.Data as json
use Rattle.serde_json.specs.Data.{Data, Items, Members, no_members}
use Rattle.serde_json.specs.Find.{get_member, as_array, as_object}
use Rattle.gltf_base.specs.Keys.{Key, key_cmp}
use Rattle.gltf_base.specs.Names.{key_named}
use Rattle.gltf_base.specs.Lists.{ListName}
use Rattle.gltf_base.specs.Steps.{Step, field, item, key, value}
use Rattle.gltf_schema.specs.Maybe.{◌>>=◌}
use Rattle.gltf_schema.specs.Tree.{Tree, index, numbers, attributes, object, list, Trees, end, with_tree}
use Rattle.gltf_schema.specs.Kind.{Mark, Kind, IndexInto, Number, Numbers, Attributes, ListOf, Object, Rows, no_rows, row, has_row, Rule}
use Rattle.gltf_schema.specs.Read.{read, read_member, read_items, read_entries, read_rows, all_numbers, small_number}
use Rattle.gltf_schema.specs.RowReading.{ReadsMembers, Starts, FromStart}
use Rattle.gltf_schema.specs.Refused.{refused_row, refused_item, refused_entry, IsMissingOr, IsRefusedAt}
use Rattle.gltf_schema.specs.Sound.{is_sound, are_sound}
use Rattle.gltf_schema.specs.Taken.{without, take_member, take_rows, take_all}
use Rattle.gltf_schema.specs.declared.placing.OwnedStep.{OwnedStep}
use Rattle.gltf_schema.specs.declared.placing.Refusal.{Refusal}
use Rattle.gltf_schema.specs.declared.placing.Refusal.TheVariants.{At}
use Rattle.gltf_schema.specs.RowPlacing.{owned_step, place_of, IsWithin, IsInside, IsPlaceIn, IsPlaceUnder, IsPlaceOfRow, PlacesMember, PlacesOthers, PlacesLeft}
use Rattle.gltf_schema.proofs.ArrayOfNumbers.{numbers_are_items}
use Rattle.gltf_schema.proofs.FromStart.{RowsTakenFrom, OthersTakenFrom, from_start, others_start}
use Rattle.gltf_schema.proofs.RowByRow.{row_taken, all_taken}
use Rattle.gltf_schema.proofs.TakingOut.{get_without, decoded, sound_row, sound_rows}

-- ---- what steps lead to is refused

row_stops : (o : Option Tree) (n : List ℕ) (kind : Kind) (r : Option (List ℕ × Kind)) (ts : Option Trees) (x : List ℕ × Kind) → (if is_none o then Some (n, kind) else r) ≡ Some x → (r ≡ Some x → ts ≡ None)
    → (o >>= λ t. option_map (with_tree t) ts) ≡ None
row_stops None n kind r ts x h later = refl
row_stops (Some t) n kind r ts x h later = rw (later h) refl

-- a row that is refused refuses the object
rows_stop : (rows : Rows) (ms : Members) (x : List ℕ × Kind) → refused_row rows ms ≡ Some x → read_rows rows ms ≡ None
unfolding refused_row
rows_stop no_rows ms x h = absurd cc
rows_stop (row n mark kind rows) ms x h = row_stops (read_member mark (read kind) (get_member n ms)) n kind (refused_row rows ms) (read_rows rows ms) x h (rows_stop rows ms x)

item_stops : (o : Option Tree) (i : ℕ) (d : Data) (r : Option (ℕ × Data)) (ts : Option Trees) (x : ℕ × Data) → (if is_none o then Some (i, d) else r) ≡ Some x → (r ≡ Some x → ts ≡ None)
    → (o >>= λ t. option_map (with_tree t) ts) ≡ None
item_stops None i d r ts x h later = refl
item_stops (Some t) i d r ts x h later = rw (later h) refl

-- an item that is refused refuses the array
items_stop : (kind : Kind) (i : ℕ) (ds : Items) (x : ℕ × Data) → refused_item kind i ds ≡ Some x → read_items (read kind) ds ≡ None
items_stop kind i json.no_items x h = absurd cc
items_stop kind i (json.item d ds) x h = item_stops (read kind d) i d (refused_item kind (suc i) ds) (read_items (read kind) ds) x h (items_stop kind (suc i) ds x)

inside : {A B C : Type 0} (o : Option A) (f : A → Option B) (g : A → Option C) (x : B) → ((a : A) → f a ≡ Some x → g a ≡ None) → (o >>= f) ≡ Some x → (o >>= g) ≡ None
inside None f g x stops h = refl
inside (Some a) f g x stops h = stops a h

-- an item that is no number refuses an array of numbers
numbers_stop : (ds : Items) (n : ℕ) (x : ℕ × Data) → refused_item Number 0 ds ≡ Some x → (all_numbers ds >>= λ xs. if length xs == n then Some (numbers xs) else None) ≡ None
numbers_stop ds n x h = rw (numbers_are_items ds, items_stop Number 0 ds x h) refl

entry_stops : (o : Option ℕ) (n : List ℕ) (d : Data) (r : Option (List ℕ × Data)) (f : ℕ → Option (List (Key × ℕ))) (x : List ℕ × Data) → (if is_none (option_map index o) then Some (n, d) else r) ≡ Some x
    → ((i : ℕ) → r ≡ Some x → f i ≡ None) → (o >>= f) ≡ None
entry_stops None n d r f x h later = refl
entry_stops (Some i) n d r f x h later = later i h

-- a member that is no index refuses the attributes
entries_stop : (named : ListName) (es : List (Key × ℕ)) (ms : Members) (x : List ℕ × Data) → refused_entry (IndexInto named) ms ≡ Some x → read_entries es ms ≡ None
entries_stop named es no_members x h = absurd cc
entries_stop named es (json.member n d ms) x h = entry_stops (small_number d) n d (refused_entry (IndexInto named) ms) _ x h (λ i. entries_stop named (insert_entry key_cmp es (key_named n) i) ms x)

-- what steps lead to is refused, and so is the value that they begin at
pub at_refused : (steps : List Step) (kind : Kind) (d : Data) → IsRefusedAt steps kind d → read kind d ≡ None
at_refused [] (Object rule rows keeps) d h = rw h refl
at_refused [] (Attributes named) d h = rw h refl
at_refused [] (ListOf kind) d h = rw h refl
at_refused [] (Numbers n) d h = h.1
at_refused [] kind d h = h
at_refused (item i ∷ steps) (ListOf kind) d h =
    inside (as_array d) (refused_item kind 0) _ (i, h.0) (λ ds is. ap (option_map list) (items_stop kind 0 ds (i, h.0) is)) h.1
at_refused (item i ∷ steps) (Numbers n) d h = inside (as_array d) (refused_item Number 0) _ (i, h.0) (λ ds is. numbers_stop ds n (i, h.0) is) h.1
at_refused (field n ∷ steps) (Object rule rows keeps) d h =
    inside (as_object d) (refused_row rows) _ (n, h.0) (λ ms is. ap (option_map _) (rows_stop rows ms (n, h.0) is)) h.1
at_refused (field n ∷ steps) (Attributes named) d h =
    inside (as_object d) (refused_entry (IndexInto named)) _ (n, h.0) (λ ms is. ap (option_map attributes) (entries_stop named [] ms (n, h.0) is)) h.1
at_refused (item i ∷ steps) kind d h = absurd h
at_refused (field n ∷ steps) kind d h = absurd h
at_refused (key t ∷ steps) kind d h = absurd h
at_refused (value t ∷ steps) kind d h = absurd h

-- ---- one row

-- the place of what is refused in a member's value is that of the row
pub place_of_row : (place : Option (List Step)) (n : List ℕ) (mark : Mark) (kind : Kind) (d : Data) (ms : Members)
    → Some d ≡ get_member n ms → read_member mark (read kind) (Some d) ≡ read kind d → IsPlaceUnder place n kind d → IsPlaceOfRow place n mark kind ms
place_of_row None n mark kind d ms is same h = tt
place_of_row (Some []) n mark kind d ms is same h = h
place_of_row (Some (step ∷ steps)) n mark kind d ms is same h = rw (← is) (h.0, same ∙ at_refused steps kind d h.1, h.1)

-- ---- rows in turn

-- the first row that is refused has the name that the place begins with, and the other steps lead to
-- what is refused in its member
pub record IsRefusedRow (rows : Rows) (ms : Members) (step : Step) (steps : List Step) : Type 0 where
  pub name : List ℕ
  pub kind : Kind
  pub begins : step ≡ field name
  pub first : refused_row rows ms ≡ Some (name, kind)
  pub inner : IsMissingOr steps (λ x. IsRefusedAt steps kind x) (get_member name ms)

same_row : (o o' : Option Tree) (n : List ℕ) (kind : Kind) (r r' : Option (List ℕ × Kind)) → o ≡ o' → r ≡ r' → (if is_none o then Some (n, kind) else r) ≡ (if is_none o' then Some (n, kind) else r')
same_row o o' n kind r r' e h = rw (e, h) refl

-- no row looks at a member of another name
refused_without : (rows : Rows) (n : List ℕ) (ms : Members) → has_row n rows ≡ false → refused_row rows (without n ms) ≡ refused_row rows ms
unfolding refused_row
refused_without no_rows n ms h = refl
refused_without (row m mark kind rows) n ms h =
    let apart = or_parts (bytes_eq m n) (has_row n rows) h in
    same_row _ _ m kind _ _ (ap (read_member mark (read kind)) (get_without m n ms apart.0)) (refused_without rows n ms apart.1)

apart_at : (o : Option Tree) (n m q : List ℕ) (kind k : Kind) (r : Option (List ℕ × Kind)) → (if is_none o then Some (m, kind) else r) ≡ Some (q, k) → bytes_eq m n ≡ false → (r ≡ Some (q, k) → bytes_eq q n ≡ false) → bytes_eq q n ≡ false
apart_at None n m q kind k r h apart later =
    let pair : (m, kind) ≡ (q, k) = cc in
    let same : m ≡ q = ap (λ (x : List ℕ × Kind). x.0) pair in
    rw (← same) apart
apart_at (Some t) n m q kind k r h apart later = later h

-- the row that is refused has another name than a row before it
refused_apart : (rows : Rows) (n q : List ℕ) (k : Kind) (ms : Members) → has_row n rows ≡ false → refused_row rows ms ≡ Some (q, k) → bytes_eq q n ≡ false
unfolding refused_row
refused_apart no_rows n q k ms h is = absurd cc
refused_apart (row m mark kind rows) n q k ms h is =
    let apart = or_parts (bytes_eq m n) (has_row n rows) h in
    apart_at (read_member mark (read kind) (get_member m ms)) n m q kind k (refused_row rows ms) is apart.0 (refused_apart rows n q k ms apart.1)

-- what a row that was taken leaves, and that its member was read
abbrev with_left : Members → Tree → Tree × Members
with_left ms t = (t, ms)

left_after : (o : Option Tree) (t : Tree) (ms ms' : Members) → option_map (with_left ms) o ≡ Some (t, ms') → (ms' ≡ ms) × (o ≡ Some t)
left_after None t ms ms' h = absurd cc
left_after (Some t') t ms ms' h =
    let p : (t', ms) ≡ (t, ms') = cc in
    (sym (ap (λ (q : Tree × Members). q.1) p), ap (λ (q : Tree × Members). Some q.0) p)

row_left : (n : List ℕ) (mark : Mark) (kind : Kind) (t : Tree) (ms ms' : Members) → take_member n mark kind ms ≡ Some (t, ms') → (ms' ≡ without n ms) × (read_member mark (read kind) (get_member n ms) ≡ Some t)
unfolding take_member
row_left n mark kind t ms ms' h = left_after (read_member mark (read kind) (get_member n ms)) t (without n ms) ms' h

passed : (n : List ℕ) (mark : Mark) (kind : Kind) (rows : Rows) (ms : Members) (t : Tree) → read_member mark (read kind) (get_member n ms) ≡ Some t → refused_row (row n mark kind rows) ms ≡ refused_row rows ms
unfolding refused_row
passed n mark kind rows ms t h = rw h refl

stopped : (n : List ℕ) (mark : Mark) (kind : Kind) (rows : Rows) (ms : Members) → read_member mark (read kind) (get_member n ms) ≡ None → refused_row (row n mark kind rows) ms ≡ Some (n, kind)
unfolding refused_row
stopped n mark kind rows ms h = rw h refl

-- a row refused later is the first that is refused
later_row : (n : List ℕ) (mark : Mark) (kind : Kind) (rows : Rows) (ms : Members) (t : Tree) (step : Step) (steps : List Step)
    → has_row n rows ≡ false → read_member mark (read kind) (get_member n ms) ≡ Some t → IsRefusedRow rows (without n ms) step steps → IsRefusedRow (row n mark kind rows) ms step steps
later_row n mark kind rows ms t step steps apart is h =
    let first : refused_row rows ms ≡ Some (h.name, h.kind) = sym (refused_without rows n ms apart) ∙ h.first in
    record {
      name = h.name;
      kind = h.kind;
      begins = h.begins;
      first = passed n mark kind rows ms t is ∙ first;
      inner = subst (λ m. IsMissingOr steps (λ x. IsRefusedAt steps h.kind x) m) (get_without h.name n ms (refused_apart rows n h.name h.kind ms apart first)) h.inner;
    }

-- rows read from members that are left, or from a state that was refused
abbrev RowsPlaced : Result Members (Option (List Step)) → Rows → Trees → Result Members (Option (List Step)) → Type 0
RowsPlaced (Ok ms) rows ts (Ok left) = take_rows rows ms ≡ Some (ts, left)
RowsPlaced (Ok ms) rows ts (Err None) = Unit {0}
RowsPlaced (Ok ms) rows ts (Err (Some [])) = ⊥
RowsPlaced (Ok ms) rows ts (Err (Some (step ∷ steps))) = IsRefusedRow rows ms step steps
RowsPlaced (Err place) rows ts new = new ≡ Err place

none_placed : (ms : Members) → RowsPlaced (Ok ms) no_rows end (Ok ms)
unfolding take_rows
none_placed ms = refl

none_from : (s new : Result Members (Option (List Step))) → new ≡ s → RowsPlaced s no_rows end new
none_from (Ok ms) new h = rw h (none_placed ms)
none_from (Err place) new h = h

row_read : (n : List ℕ) (mark : Mark) (kind : Kind) (rows : Rows) (t : Tree) (ts : Trees) (ms ms' : Members) (new : Result Members (Option (List Step)))
    → has_row n rows ≡ false → take_member n mark kind ms ≡ Some (t, ms') → RowsPlaced (Ok ms') rows ts new → RowsPlaced (Ok ms) (row n mark kind rows) (with_tree t ts) new
row_read n mark kind rows t ts ms ms' (Ok rest) apart is h = row_taken n mark kind rows ms ms' rest t ts is h
row_read n mark kind rows t ts ms ms' (Err None) apart is h = tt
row_read n mark kind rows t ts ms ms' (Err (Some [])) apart is h = h
row_read n mark kind rows t ts ms ms' (Err (Some (step ∷ steps))) apart is h =
    let p = row_left n mark kind t ms ms' is in
    later_row n mark kind rows ms t step steps apart p.1 (subst (λ left. IsRefusedRow rows left step steps) p.0 h)

row_refused : (place : Option (List Step)) (n : List ℕ) (mark : Mark) (kind : Kind) (rows : Rows) (t : Tree) (ts : Trees) (ms : Members)
    → IsPlaceOfRow place n mark kind ms → RowsPlaced (Ok ms) (row n mark kind rows) (with_tree t ts) (Err place)
row_refused None n mark kind rows t ts ms h = tt
row_refused (Some []) n mark kind rows t ts ms h = h
row_refused (Some (step ∷ steps)) n mark kind rows t ts ms h = record { name = n; kind = kind; begins = h.0; first = stopped n mark kind rows ms h.1; inner = h.2 }

both_from : (old mid new : Result Members (Option (List Step))) (n : List ℕ) (mark : Mark) (kind : Kind) (rows : Rows) (t : Tree) (ts : Trees) → has_row n rows ≡ false
    → PlacesMember old n mark kind t mid → RowsPlaced mid rows ts new → RowsPlaced old (row n mark kind rows) (with_tree t ts) new
both_from (Ok ms) (Ok ms') new n mark kind rows t ts apart h k = row_read n mark kind rows t ts ms ms' new apart h k
both_from (Ok ms) (Err place) new n mark kind rows t ts apart h k =
    subst (λ r. RowsPlaced (Ok ms) (row n mark kind rows) (with_tree t ts) r) (sym k) (row_refused place n mark kind rows t ts ms h)
both_from (Err place) mid new n mark kind rows t ts apart h k = subst (λ (r : Result Members (Option (List Step))). RowsPlaced r rows ts new) h k

rows_placed : (old : Result Members (Option (List Step))) (rows : Rows) (ts : Trees) (new : Result Members (Option (List Step))) → are_sound rows ≡ true → RowsTakenFrom PlacesMember old rows ts new → RowsPlaced old rows ts new
rows_placed old no_rows end new sound h = none_from old new h
rows_placed old no_rows (with_tree t ts) new sound h = absurd h
rows_placed old (row n mark kind rows) end new sound h = absurd h
rows_placed old (row n mark kind rows) (with_tree t ts) new sound h =
    let line = sound_row n mark kind rows sound in
    both_from old h.0 new n mark kind rows t ts line.apart h.1 (rows_placed h.0 rows ts new line.rest h.2)

-- ---- an object of what was read

-- the rows' trees and the other members, or the place of the row that was refused
abbrev AllPlaced : Result Members (Option (List Step)) → Rows → Bool → Trees → Members → Members → Type 0
AllPlaced (Ok rest) rows keeps ts unknown ms = take_all rows keeps ms ≡ Some (ts, unknown)
AllPlaced (Err None) rows keeps ts unknown ms = Unit {0}
AllPlaced (Err (Some [])) rows keeps ts unknown ms = ⊥
AllPlaced (Err (Some (step ∷ steps))) rows keeps ts unknown ms = IsRefusedRow rows ms step steps

same_place : (place : Option (List Step)) (rows : Rows) (keeps : Bool) (ts : Trees) (unknown ms : Members) → RowsPlaced (Ok ms) rows ts (Err place) → AllPlaced (Err place) rows keeps ts unknown ms
same_place None rows keeps ts unknown ms h = tt
same_place (Some []) rows keeps ts unknown ms h = h
same_place (Some (step ∷ steps)) rows keeps ts unknown ms h = h

closed : (s : Result Members (Option (List Step))) (rows : Rows) (ts : Trees) (ms : Members) → RowsPlaced (Ok ms) rows ts s → AllPlaced s rows false ts no_members ms
closed (Ok rest) rows ts ms h = all_taken rows false ms rest ts h
closed (Err place) rows ts ms h = same_place place rows false ts no_members ms h

kept : (s new : Result Members (Option (List Step))) (rows : Rows) (ts : Trees) (unknown ms : Members) → RowsPlaced (Ok ms) rows ts s → PlacesOthers s unknown new → AllPlaced new rows true ts unknown ms
kept (Ok rest) (Ok after) rows ts unknown ms h taken = rw taken (all_taken rows true ms rest ts h)
kept (Ok rest) (Err None) rows ts unknown ms h taken = tt
kept (Ok rest) (Err (Some [])) rows ts unknown ms h taken = taken
kept (Ok rest) (Err (Some (step ∷ steps))) rows ts unknown ms h taken = absurd taken
kept (Err place) new rows ts unknown ms h taken =
    subst (λ (s : Result Members (Option (List Step))). AllPlaced s rows true ts unknown ms) (sym taken) (same_place place rows true ts unknown ms h)

others_placed : (keeps : Bool) (s new : Result Members (Option (List Step))) (rows : Rows) (ts : Trees) (unknown ms : Members)
    → RowsPlaced (Ok ms) rows ts s → OthersTakenFrom PlacesOthers keeps s unknown new → AllPlaced new rows keeps ts unknown ms
others_placed true s new rows ts unknown ms h taken = kept s new rows ts unknown ms h taken
others_placed false s new rows ts unknown ms h taken = rw (taken.0, taken.1) (closed s rows ts ms h)

members_placed : {new : Result Members (Option (List Step))} {rows : Rows} {keeps : Bool} {ts ts' : Trees} {others unknown ms : Members}
    → are_sound rows ≡ true → Starts rows ts → ReadsMembers (FromStart PlacesMember) PlacesLeft rows keeps ts ts' others unknown (Ok ms) new → AllPlaced new rows keeps ts' unknown ms
members_placed {new} {rows} {keeps} {ts} {ts'} {others} {unknown} {ms} sound start h =
    others_placed keeps h.mid new rows ts' unknown ms (rows_placed (Ok ms) rows ts' h.mid sound (from_start PlacesMember (Ok ms) h.mid rows ts ts' start h.rows_from))
    (others_start PlacesOthers keeps h.mid new others unknown h.others_from)

placed_in : (place : Option (List Step)) (rule : Rule) (rows : Rows) (keeps : Bool) (ts : Trees) (unknown ms : Members)
    → AllPlaced (Err place) rows keeps ts unknown ms → IsPlaceIn place (Object rule rows keeps) (json.object ms)
placed_in None rule rows keeps ts unknown ms h = tt
placed_in (Some []) rule rows keeps ts unknown ms h = absurd h
placed_in (Some (step ∷ steps)) rule rows keeps ts unknown ms h =
    subst (λ s. IsRefusedAt (s ∷ steps) (Object rule rows keeps) (json.object ms)) (sym h.begins) (h.kind, h.first, h.inner)

inside_object : (place : Option (List Step)) (rows : Rows) (keeps : Bool) (ts : Trees) (unknown ms : Members) → AllPlaced (Err place) rows keeps ts unknown ms → IsInside place
inside_object None rows keeps ts unknown ms h = tt
inside_object (Some []) rows keeps ts unknown ms h = h
inside_object (Some (step ∷ steps)) rows keeps ts unknown ms h = tt

-- an object is read if each row is
pub object_read : {X : Type 0} {ts : Trees} {others : Members} (f : X → Trees) (g : X → Members) (x : X) (rule : Rule) (rows : Rows) (keeps : Bool) (ms rest : Members) (new : Result Members (Option (List Step)))
    → is_sound (Object rule rows keeps) ≡ true → Starts rows ts → ReadsMembers (FromStart PlacesMember) PlacesLeft rows keeps ts (f x) others (g x) (Ok ms) new → new ≡ Ok rest
    → read (Object rule rows keeps) (json.object ms) ≡ Some (object (f x) (g x))
object_read {X} {ts} {others} f g x rule rows keeps ms rest new sound start h is =
    let lines = sound_rows rule rows sound in
    decoded (Ok x) f g rows keeps ms lines (subst (λ s. AllPlaced s rows keeps (f x) (g x) ms) is (members_placed lines start h))

-- and is refused at the first row that is refused
pub object_refused : {ts ts' : Trees} {others unknown : Members} (place : Option (List Step)) (rule : Rule) (rows : Rows) (keeps : Bool) (ms : Members) (new : Result Members (Option (List Step)))
    → is_sound (Object rule rows keeps) ≡ true → Starts rows ts → ReadsMembers (FromStart PlacesMember) PlacesLeft rows keeps ts ts' others unknown (Ok ms) new → new ≡ Err place
    → IsPlaceIn place (Object rule rows keeps) (json.object ms)
object_refused {ts} {ts'} {others} {unknown} place rule rows keeps ms new sound start h is =
    placed_in place rule rows keeps ts' unknown ms (subst (λ s. AllPlaced s rows keeps ts' unknown ms) is (members_placed (sound_rows rule rows sound) start h))

-- so the place is one of its members, or in it
pub object_refused_inside : {ts ts' : Trees} {others unknown : Members} (place : Option (List Step)) (rule : Rule) (rows : Rows) (keeps : Bool) (ms : Members) (new : Result Members (Option (List Step)))
    → is_sound (Object rule rows keeps) ≡ true → Starts rows ts → ReadsMembers (FromStart PlacesMember) PlacesLeft rows keeps ts ts' others unknown (Ok ms) new → new ≡ Err place → IsInside place
object_refused_inside {ts} {ts'} {others} {unknown} place rule rows keeps ms new sound start h is =
    inside_object place rows keeps ts' unknown ms (subst (λ s. AllPlaced s rows keeps ts' unknown ms) is (members_placed (sound_rows rule rows sound) start h))

-- ---- an array of what was read

-- an item that is read is not the one that is refused
pub item_passed : (kind : Kind) (i : ℕ) (d : Data) (ds : Items) (t : Tree) → read kind d ≡ Some t → refused_item kind i (json.item d ds) ≡ refused_item kind (suc i) ds
item_passed kind i d ds t h = rw h refl

-- the place of what is refused in an item is within the array at the item's number
pub item_refused : (place inner : Option (List Step)) (kind : Kind) (i : ℕ) (d : Data) (ds all : Items) → refused_item kind i (json.item d ds) ≡ refused_item kind 0 all
    → IsPlaceIn inner kind d → IsWithin (item i) inner place → IsPlaceIn place (ListOf kind) (json.array all)
item_refused None inner kind i d ds all same h within = tt
item_refused (Some steps) None kind i d ds all same h within = absurd cc
item_refused (Some steps) (Some rest) kind i d ds all same h within =
    let is : item i ∷ rest ≡ steps = cc in
    let here : refused_item kind 0 all ≡ Some (i, d) = sym same ∙ rw (at_refused rest kind d h) refl in
    subst (λ s. IsRefusedAt s (ListOf kind) (json.array all)) is (d, here, h)

-- so the place is one of its items, or in it
pub item_refused_inside : (place inner : Option (List Step)) (step : Step) → IsWithin step inner place → IsInside place
item_refused_inside None inner step within = tt
item_refused_inside (Some []) None step within = absurd cc
item_refused_inside (Some []) (Some rest) step within = absurd cc
item_refused_inside (Some (first ∷ steps)) inner step within = tt

-- ---- an array of numbers

none_stops : (o : Option Tree) (i : ℕ) (d : Data) (ts : Option Trees) (later : Option (ℕ × Data)) (t : Trees) → (o >>= λ x. option_map (with_tree x) ts) ≡ Some t → ((t' : Trees) → ts ≡ Some t' → later ≡ None)
    → (if is_none o then Some (i, d) else later) ≡ None
none_stops None i d ts later t h rest = absurd cc
none_stops (Some x) i d None later t h rest = absurd cc
none_stops (Some x) i d (Some t') later t h rest = rest t' refl

-- of items that are read none is refused
pub none_refused : (kind : Kind) (i : ℕ) (ds : Items) (ts : Trees) → read_items (read kind) ds ≡ Some ts → refused_item kind i ds ≡ None
none_refused kind i json.no_items ts h = refl
none_refused kind i (json.item d ds) ts h = none_stops (read kind d) i d (read_items (read kind) ds) (refused_item kind (suc i) ds) ts h (λ t' is. none_refused kind (suc i) ds t' is)

-- ---- attributes

-- a member that is read is not the one that is refused
pub entry_passed : (named : ListName) (n : List ℕ) (d : Data) (ms : Members) (t : Tree) → read (IndexInto named) d ≡ Some t → refused_entry (IndexInto named) (json.member n d ms) ≡ refused_entry (IndexInto named) ms
entry_passed named n d ms t h = rw h refl

-- the place of what is refused in a member is within the attributes at the member's name
pub entry_placed : (place inner : Option (List Step)) (named : ListName) (n : List ℕ) (d : Data) (ms all : Members) → refused_entry (IndexInto named) (json.member n d ms) ≡ refused_entry (IndexInto named) all
    → IsPlaceIn inner (IndexInto named) d → IsWithin (field n) inner place → IsPlaceIn place (Attributes named) (json.object all)
entry_placed None inner named n d ms all same h within = tt
entry_placed (Some steps) None named n d ms all same h within = absurd cc
entry_placed (Some steps) (Some rest) named n d ms all same h within =
    let is : field n ∷ rest ≡ steps = cc in
    let here : refused_entry (IndexInto named) all ≡ Some (n, d) = sym same ∙ rw (at_refused rest (IndexInto named) d h) refl in
    subst (λ s. IsRefusedAt s (Attributes named) (json.object all)) is (d, here, h)

-- what is refused at a place is not read
pub refused_at : (r : Refusal) (steps : Vec OwnedStep Global) (kind : Kind) (d : Data) → r ≡ At steps → IsPlaceIn (place_of r) kind d → read kind d ≡ None
refused_at r steps kind d is h = at_refused (map owned_step steps.items) kind d (subst (λ (q : Refusal). IsPlaceIn (place_of q) kind d) is h)
