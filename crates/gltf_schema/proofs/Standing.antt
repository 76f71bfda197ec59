-- Members that come one after another, and what the rows read of all that came.
use Rattle.std.proofs.Common.{◌≡◌, ◌⊎◌, inl, inr, ◌+◌, ◌<◌, ◌≤◌, ℕ, zero, suc, List, [], ◌∷◌, length, Bool, true, false, not, ◌&&◌, ◌||◌, cond, Option, Some, None, get_or, set, bytes_eq, refl, sym, ap, ap₂, ◌∙◌, subst, arith, true≢false}
use Rattle.std.specs.Prelude.{⊤}
use Rattle.std.proofs.lemmas.Bool.{or_parts}
use Rattle.std.proofs.lemmas.List.{get_or-set_other}
use Rattle.std.proofs.lemmas.Slice.Eq.{bytes_eq-Decides}
use Rattle.json.specs.Token.{Token}
use Rattle.json.specs.Json.{value}
use Rattle.json.proofs.Grammar.{left, skip_value-shorter}
use Rattle.gltf_schema.proofs.Turns.{converted_some}
use Rattle.serde_json.specs.Data.{Data, Members, no_members, put, object as json_object}
use Rattle.serde_json.specs.Read.{of_json, converted}
use Rattle.serde_json.specs.Find.{get_member}
use Rattle.serde_json.proofs.Views.{get_member-put, get_member-put_other}
use Rattle.gltf_schema.specs.Tree.{Tree, Trees, end, with_tree, object}
use Rattle.gltf_schema.specs.Kind.{Rule, Object, Mark, required, optional, always, unless, sometimes, or_null, Kind, Rows, no_rows, row, has_row}
use Rattle.gltf_schema.specs.Read.{read, read_member, read_rows, kept}
use Rattle.gltf_schema.specs.RowReading.{RowsFrom, OthersFrom, ReadsMembers, StartsRow, Starts, is_needed, required_in}
use Rattle.gltf_schema.specs.Streamed.{Ahead, HasValue, is_named, row_after, seen_after, Passes, Takes, TakesNext, LeavesNone, LeavesOne, LeavesNext}
use Rattle.gltf_schema.proofs.ByName.{are_distinct}
use Rattle.gltf_schema.proofs.InOrder.{InOrder}
use Rattle.gltf_schema.proofs.OthersPut.{InOrder-put, kept_put_row, others_put_other}

-- what is read of a row's member is its tree; of one that has to be there, once it was seen
abbrev pub StandsRow : Mark → ℕ → List Bool → Option Tree → Tree → Type 0
StandsRow mark r seen o t = (is_needed mark ≡ true → get_or seen r false ≡ true) → o ≡ Some t

abbrev pub Stands : ℕ → List Bool → Members → Rows → Trees → Type 0
Stands r seen ms no_rows end = ⊤
Stands r seen ms (row n mark kind rows) (with_tree t ts) = StandsRow mark r seen (read_member mark (read kind) (get_member n ms)) t × Stands (row_after mark r) seen ms rows ts
Stands r seen ms _ _ = ⊥

-- ---- before any member

starts_row : (mark : Mark) (f : Data → Option Tree) (r : ℕ) (seen : List Bool) (t : Tree) → get_or seen r false ≡ false → StartsRow mark t → StandsRow mark r seen (read_member mark f None) t
starts_row required f r seen t none h = λ s. absurd (true≢false (sym (s refl) ∙ none))
starts_row optional f r seen t none h = λ s. ap Some (sym h)
starts_row (always given) f r seen t none h = λ s. ap Some (sym h)
starts_row (unless given) f r seen t none h = λ s. ap Some (sym h)
starts_row sometimes f r seen t none h = λ s. ap Some (sym h)
starts_row or_null f r seen t none h = λ s. ap Some (sym h)

pub starting : (rows : Rows) (ts : Trees) (r : ℕ) (seen : List Bool) → ((i : ℕ) → get_or seen i false ≡ false) → Starts rows ts → Stands r seen no_members rows ts
starting no_rows end r seen none h = tt
starting no_rows (with_tree t ts) r seen none h = absurd h
starting (row n mark kind rows) end r seen none h = absurd h
starting (row n mark kind rows) (with_tree t ts) r seen none h = (starts_row mark (read kind) r seen t (none r) h.0, starting rows ts (row_after mark r) seen none h.1)

-- ---- after the last one

needed_at : (b : Bool) (r x : ℕ) → b ≡ true → r < r + (x + cond b 1 0)
needed_at true r x e = omega arith
needed_at false r x e = absurd (true≢false (sym e))

further : (b : Bool) (r x i : ℕ) → i < cond b (r + 1) r + x → i < r + (x + cond b 1 0)
further true r x i h = omega (arith, h)
further false r x i h = omega (arith, h)

pub ending : (rows : Rows) (ts : Trees) (r : ℕ) (seen : List Bool) (ms : Members) → ((i : ℕ) → i < r + required_in rows → get_or seen i false ≡ true) → Stands r seen ms rows ts → read_rows rows ms ≡ Some ts
ending no_rows end r seen ms all h = refl
ending no_rows (with_tree t ts) r seen ms all h = absurd h
ending (row n mark kind rows) end r seen ms all h = absurd h
ending (row n mark kind rows) (with_tree t ts) r seen ms all h =
    let first = h.0 (λ e. all r (needed_at (is_needed mark) r (required_in rows) e)) in
    let others = ending rows ts (row_after mark r) seen ms (λ i less. all i (further (is_needed mark) r (required_in rows) i less)) h.1 in
    rw (first, others) refl

-- ---- rows of other names

pub went_well : (rows : Rows) (ts ts' : Trees) (old new : Ahead) → RowsFrom TakesNext old rows ts ts' new → new.failed ≡ false → old.failed ≡ false
went_well no_rows end end old new h well = ap (λ s. s.failed) (sym h) ∙ well
went_well no_rows end (with_tree t' ts') old new h well = absurd h
went_well no_rows (with_tree t ts) ts' old new h well = absurd h
went_well (row n mark kind rows) end ts' old new h well = absurd h
went_well (row n mark kind rows) (with_tree t ts) end old new h well = absurd h
went_well (row n mark kind rows) (with_tree t ts) (with_tree t' ts') old new h well = (h.1 (went_well rows ts ts' h.0 new h.2 well)).0

-- some row has the name, if there is one
abbrev pub named_row : Option (List ℕ) → Rows → Bool
named_row name no_rows = false
named_row name (row n mark kind rows) = is_named n name || named_row name rows

named_none : (rows : Rows) → named_row None rows ≡ false
named_none no_rows = refl
named_none (row n mark kind rows) = named_none rows

named_some : (k : List ℕ) (rows : Rows) → named_row (Some k) rows ≡ has_row k rows
named_some k no_rows = refl
named_some k (row n mark kind rows) = ap (λ b. bytes_eq n k || b) (named_some k rows)

-- nothing but the number of the row has changed
abbrev pub Apart : Trees → Trees → Ahead → Ahead → Type 0
Apart ts ts' old new = (ts' ≡ ts) × (new.name ≡ old.name) × (new.seen ≡ old.seen) × (new.depth ≡ old.depth) × (new.tokens ≡ old.tokens)

row_apart : (n : List ℕ) (mark : Mark) (kind : Kind) (rows : Rows) (t t' : Tree) (ts ts' : Trees) (old mid new : Ahead)
    → (is_named n old.name ≡ false) × (named_row old.name rows ≡ false)
    → Passes old n mark t t' mid ⊎ Takes old n mark kind t' mid
    → (named_row mid.name rows ≡ false → Apart ts ts' mid new)
    → Apart (with_tree t ts) (with_tree t' ts') old new
row_apart n mark kind rows t t' ts ts' old mid new none (inl s) go =
    let a = go (ap (λ k. named_row k rows) s.2 ∙ none.1) in (
      ap (λ x. with_tree x ts') s.1 ∙ ap (with_tree t) a.0,
      a.1 ∙ s.2,
      a.2 ∙ s.4,
      a.3 ∙ s.5,
      a.4 ∙ s.6,
    )
row_apart n mark kind rows t t' ts ts' old mid new none (inr k) go = absurd (true≢false (sym k.0 ∙ none.0))

pub apart : (rows : Rows) (ts ts' : Trees) (old new : Ahead) → named_row old.name rows ≡ false → RowsFrom TakesNext old rows ts ts' new → new.failed ≡ false → Apart ts ts' old new
apart no_rows end end old new none h well = (refl, ap (λ s. s.name) h, ap (λ s. s.seen) h, ap (λ s. s.depth) h, ap (λ s. s.tokens) h)
apart no_rows end (with_tree t' ts') old new none h well = absurd h
apart no_rows (with_tree t ts) ts' old new none h well = absurd h
apart (row n mark kind rows) end ts' old new none h well = absurd h
apart (row n mark kind rows) (with_tree t ts) end old new none h well = absurd h
apart (row n mark kind rows) (with_tree t ts) (with_tree t' ts') old new none h well =
    row_apart n mark kind rows t t' ts ts' old h.0 new (or_parts (is_named n old.name) (named_row old.name rows) none)
    (h.1 (went_well rows ts ts' h.0 new h.2 well)).1 (λ later. apart rows ts ts' h.0 new later h.2 well)

-- ---- one member more

differs : (n m : List ℕ) → bytes_eq n m ≡ false → n ≡ m → ⊥
differs n m is e = true≢false (sym ((bytes_eq-Decides n m).1 e) ∙ is)

up : (b : Bool) (r : ℕ) → r ≤ cond b (r + 1) r
up true r = omega arith
up false r = omega arith

up_one : (b : Bool) (r : ℕ) → b ≡ true → r < cond b (r + 1) r
up_one true r e = omega arith
up_one false r e = absurd (true≢false (sym e))

module _ (k : List ℕ) (d : Data) (ms : Members) where
  unread : (n : List ℕ) (mark : Mark) (kind : Kind) → bytes_eq n k ≡ false → read_member mark (read kind) (get_member n (put k d ms)) ≡ read_member mark (read kind) (get_member n ms)
  unread n mark kind other = ap (read_member mark (read kind)) (get_member-put_other n k d ms (differs n k other))

  -- a row of another name stands as before
  row_later : (n : List ℕ) (mark : Mark) (kind : Kind) (r : ℕ) (seen seen' : List Bool) (t t' : Tree) → bytes_eq n k ≡ false → t' ≡ t
      → (is_needed mark ≡ true → get_or seen' r false ≡ get_or seen r false)
      → StandsRow mark r seen (read_member mark (read kind) (get_member n ms)) t → StandsRow mark r seen' (read_member mark (read kind) (get_member n (put k d ms))) t'
  row_later n mark kind r seen seen' t t' other same back h = λ s. unread n mark kind other ∙ h (λ e. sym (back e) ∙ s e) ∙ ap Some (sym same)

  pub later : (rows : Rows) (ts : Trees) (r : ℕ) (seen seen' : List Bool) → has_row k rows ≡ false → ((i : ℕ) → r ≤ i → get_or seen' i false ≡ get_or seen i false) → Stands r seen ms rows ts → Stands r seen' (put k d ms) rows ts
  later no_rows end r seen seen' none same h = tt
  later no_rows (with_tree t ts) r seen seen' none same h = absurd h
  later (row n mark kind rows) end r seen seen' none same h = absurd h
  later (row n mark kind rows) (with_tree t ts) r seen seen' none same h =
      let parts = or_parts (bytes_eq n k) (has_row k rows) none in (
        row_later n mark kind r seen seen' t t parts.0 refl (λ e. same r (omega arith)) h.0,
        later rows ts (row_after mark r) seen seen' parts.1 (λ i more. same i (omega (arith, more, up (is_needed mark) r))) h.1,
      )

  now_read : (n : List ℕ) (mark : Mark) (kind : Kind) (t : Tree) → bytes_eq n k ≡ true → read_member mark (read kind) (Some d) ≡ Some t → read_member mark (read kind) (get_member n (put k d ms)) ≡ Some t
  now_read n mark kind t is e =
      let same : n ≡ k = (bytes_eq-Decides n k).0 is in
      ap (λ x. read_member mark (read kind) (get_member x (put k d ms))) same ∙ ap (read_member mark (read kind)) (get_member-put k d ms) ∙ e

seen_above : (b : Bool) (r : ℕ) (seen : List Bool) (i : ℕ) → cond b (r + 1) r ≤ i → get_or (cond b (set seen r true) seen) i false ≡ get_or seen i false
seen_above true r seen i more = get_or-set_other seen r i true false (λ e. absurd (omega (arith, more, e)))
seen_above false r seen i more = refl

seen_below : (b : Bool) (r : ℕ) (seen : List Bool) (i : ℕ) → i < r → get_or (cond b (set seen r true) seen) i false ≡ get_or seen i false
seen_below true r seen i less = get_or-set_other seen r i true false (λ e. absurd (omega (arith, less, e)))
seen_below false r seen i less = refl

-- one row took the member
abbrev pub Took : ℕ → Members → List ℕ → Rows → Trees → Ahead → Ahead → Type 0
Took r ms k rows ts' old new = (d : Data) × HasValue old.depth old.tokens d new.tokens × Stands r new.seen (put k d ms) rows ts'
    × ((i : ℕ) → i < r → get_or new.seen i false ≡ get_or old.seen i false) × (new.name ≡ None) × (new.depth ≡ old.depth)

pub not_true : (b c : Bool) → (not b && c) ≡ true → (b ≡ false) × (c ≡ true)
not_true true c e = absurd (true≢false (sym e))
not_true false c e = (refl, e)

skipped : (n : List ℕ) (mark : Mark) (kind : Kind) (rows : Rows) (t t' : Tree) (ts' : Trees) (r : ℕ) (ms : Members) (k : List ℕ) (old mid new : Ahead)
    → old.name ≡ Some k → Passes old n mark t t' mid → StandsRow mark r old.seen (read_member mark (read kind) (get_member n ms)) t
    → Took (row_after mark r) ms k rows ts' mid new → Took r ms k (row n mark kind rows) (with_tree t' ts') old new
skipped n mark kind rows t t' ts' r ms k old mid new is s first a =
    let other : bytes_eq n k ≡ false = sym (ap (is_named n) is) ∙ s.0 in
    let below : (i : ℕ) → i < row_after mark r → get_or new.seen i false ≡ get_or old.seen i false = λ i less. a.3 i less ∙ ap (λ x. get_or x i false) s.4 in (
      a.0,
      sym (ap₂ (λ x y. converted of_json (value x y)) s.5 s.6) ∙ a.1,
      (row_later k a.0 ms n mark kind r old.seen new.seen t t' other s.1 (λ e. below r (up_one (is_needed mark) r e)) first, a.2),
      λ i less. below i (omega (arith, less, up (is_needed mark) r)),
      a.4,
      a.5 ∙ s.5,
    )

took : (n : List ℕ) (mark : Mark) (kind : Kind) (rows : Rows) (t t' : Tree) (ts ts' : Trees) (r : ℕ) (ms : Members) (k : List ℕ) (old mid new : Ahead)
    → old.name ≡ Some k → has_row n rows ≡ false → old.row ≡ r → Stands (row_after mark r) old.seen ms rows ts → Takes old n mark kind t' mid
    → Apart ts ts' mid new → Took r ms k (row n mark kind rows) (with_tree t' ts') old new
took n mark kind rows t t' ts ts' r ms k old mid new is unlike at stands g a =
    let d = g.1.0 in
    let named : bytes_eq n k ≡ true = sym (ap (is_named n) is) ∙ g.0 in
    let same : n ≡ k = (bytes_eq-Decides n k).0 named in
    let seen : new.seen ≡ seen_after mark r old.seen = a.2 ∙ g.4 ∙ ap (λ x. seen_after mark x old.seen) at in (
      d,
      g.1.1 ∙ ap (λ x. Some (d, x)) (sym a.4),
      (
        λ s. now_read k d ms n mark kind t' named g.1.2,
        subst (λ x. Stands (row_after mark r) new.seen (put k d ms) rows x) (sym a.0)
            (later k d ms rows ts (row_after mark r) old.seen new.seen (ap (λ x. has_row x rows) (sym same) ∙ unlike)
            (λ i more. ap (λ x. get_or x i false) seen ∙ seen_above (is_needed mark) r old.seen i more) stands),
      ),
      λ i less. ap (λ x. get_or x i false) seen ∙ seen_below (is_needed mark) r old.seen i less,
      a.1 ∙ g.2,
      a.3 ∙ g.5,
    )

row_taken : (n : List ℕ) (mark : Mark) (kind : Kind) (rows : Rows) (t t' : Tree) (ts ts' : Trees) (r : ℕ) (ms : Members) (k : List ℕ) (old mid new : Ahead)
    → old.name ≡ Some k → (bytes_eq n k || has_row k rows) ≡ true → has_row n rows ≡ false → old.row ≡ r → Stands r old.seen ms (row n mark kind rows) (with_tree t ts)
    → Passes old n mark t t' mid ⊎ Takes old n mark kind t' mid
    → (named_row mid.name rows ≡ false → Apart ts ts' mid new)
    → (mid.name ≡ Some k → has_row k rows ≡ true → mid.row ≡ row_after mark r → Stands (row_after mark r) mid.seen ms rows ts → Took (row_after mark r) ms k rows ts' mid new)
    → Took r ms k (row n mark kind rows) (with_tree t' ts') old new
row_taken n mark kind rows t t' ts ts' r ms k old mid new is some unlike at stands (inl s) over go =
    let other : bytes_eq n k ≡ false = sym (ap (is_named n) is) ∙ s.0 in
    skipped n mark kind rows t t' ts' r ms k old mid new is s stands.0
    (go (s.2 ∙ is) (sym (ap (λ b. b || has_row k rows) other) ∙ some) (s.3 ∙ ap (row_after mark) at)
    (subst (λ seen. Stands (row_after mark r) seen ms rows ts) (sym s.4) stands.1))
row_taken n mark kind rows t t' ts ts' r ms k old mid new is some unlike at stands (inr g) over go =
    took n mark kind rows t t' ts ts' r ms k old mid new is unlike at stands.1 g (over (ap (λ x. named_row x rows) g.2 ∙ named_none rows))

pub taken : (rows : Rows) (ts ts' : Trees) (r : ℕ) (ms : Members) (k : List ℕ) (old new : Ahead)
    → old.name ≡ Some k → has_row k rows ≡ true → are_distinct rows ≡ true → old.row ≡ r → Stands r old.seen ms rows ts → RowsFrom TakesNext old rows ts ts' new → new.failed ≡ false
    → Took r ms k rows ts' old new
taken no_rows ts ts' r ms k old new is some sound at stands h well = absurd (true≢false (sym some))
taken (row n mark kind rows) end ts' r ms k old new is some sound at stands h well = absurd h
taken (row n mark kind rows) (with_tree t ts) end r ms k old new is some sound at stands h well = absurd h
taken (row n mark kind rows) (with_tree t ts) (with_tree t' ts') r ms k old new is some sound at stands h well =
    let parts = not_true (has_row n rows) (are_distinct rows) sound in
    row_taken n mark kind rows t t' ts ts' r ms k old h.0 new is some parts.0 at stands (h.1 (went_well rows ts ts' h.0 new h.2 well)).1
    (λ none. apart rows ts ts' h.0 new none h.2 well)
    (λ next there on before. taken rows ts ts' (row_after mark r) ms k h.0 new next there parts.1 on before h.2 well)

-- ---- an object's rows and its other members

-- the places hold what the table reads of the members, but for those that have to be there and did not come
abbrev pub Holds : Rows → Bool → List Bool → Members → Trees → Members → Type 0
Holds rows keeps seen ms ts u = InOrder ms × Stands 0 seen ms rows ts × (u ≡ kept keeps rows ms)

-- the member was read, or it is still to be read and changes nothing
abbrev pub Came : Rows → Bool → Members → List ℕ → Trees → Members → Ahead → Ahead → Type 0
Came rows keeps ms k ts' u' old new =
    ((new.name ≡ None) × ((d : Data) × HasValue old.depth old.tokens d new.tokens × Stands 0 new.seen (put k d ms) rows ts' × (u' ≡ kept keeps rows (put k d ms))))
    ⊎ ((new.name ≡ Some k) × (new.tokens ≡ old.tokens) × ((d : Data) → Stands 0 new.seen (put k d ms) rows ts' × (u' ≡ kept keeps rows (put k d ms))))

nothing : {A : Type 0} (a : A) → None ≡ Some a → ⊥
nothing a e = absurd cc

abbrev pick : {A : Type 0} → A → Option A → A
pick d None = d
pick d (Some a) = a

left_row : (rows : Rows) (ts' : Trees) (u u' ms : Members) (k : List ℕ) (old mid new : Ahead)
    → has_row k rows ≡ true → u ≡ kept true rows ms → Took 0 ms k rows ts' old mid → LeavesNone mid u u' new ⊎ LeavesOne mid u u' new
    → Came rows true ms k ts' u' old new × (new.depth ≡ old.depth)
left_row rows ts' u u' ms k old mid new named e g (inl l) = (
  inl (
    l.2,
    (
      g.0,
      g.1 ∙ ap (λ x. Some (g.0, x)) (sym l.6),
      subst (λ x. Stands 0 x (put k g.0 ms) rows ts') (sym l.4) g.2,
      l.1 ∙ e ∙ sym (kept_put_row true rows k g.0 ms named),
    ),
  ),
  l.5 ∙ g.5,
)
left_row rows ts' u u' ms k old mid new named e g (inr l) = absurd (nothing l.0 (sym g.4 ∙ l.2))

came_row : (keeps : Bool) (rows : Rows) (ts' : Trees) (u u' ms : Members) (k : List ℕ) (old mid new : Ahead)
    → has_row k rows ≡ true → u ≡ kept keeps rows ms → Took 0 ms k rows ts' old mid → OthersFrom LeavesNext keeps mid u u' new → new.failed ≡ false
    → Came rows keeps ms k ts' u' old new × (new.depth ≡ old.depth)
came_row true rows ts' u u' ms k old mid new named e g h well = left_row rows ts' u u' ms k old mid new named e g (h well).1
came_row false rows ts' u u' ms k old mid new named e g h well = (
  inl (
    ap (λ s. s.name) h.1 ∙ g.4,
    (
      g.0,
      g.1 ∙ ap (λ s. Some (g.0, s.tokens)) (sym h.1),
      subst (λ x. Stands 0 x (put k g.0 ms) rows ts') (ap (λ s. s.seen) (sym h.1)) g.2,
      h.0,
    ),
  ),
  ap (λ s. s.depth) h.1 ∙ g.5,
)

unlike_stands : (rows : Rows) (ts ts' : Trees) (ms : Members) (k : List ℕ) (d : Data) (seen seen' : List Bool) → has_row k rows ≡ false → ts' ≡ ts → seen' ≡ seen → Stands 0 seen ms rows ts → Stands 0 seen' (put k d ms) rows ts'
unlike_stands rows ts ts' ms k d seen seen' unlike same e stands =
    subst (λ x. Stands 0 seen' (put k d ms) rows x) (sym same) (later k d ms rows ts 0 seen seen' unlike (λ i more. ap (λ x. get_or x i false) e) stands)

left_other : (rows : Rows) (ts ts' : Trees) (u u' ms : Members) (k : List ℕ) (old mid new : Ahead)
    → old.name ≡ Some k → has_row k rows ≡ false → Holds rows true old.seen ms ts u → Apart ts ts' old mid → LeavesNone mid u u' new ⊎ LeavesOne mid u u' new
    → Came rows true ms k ts' u' old new × (new.depth ≡ old.depth)
left_other rows ts ts' u u' ms k old mid new is unlike held a (inl l) = absurd (nothing k (sym l.0 ∙ a.1 ∙ is))
left_other rows ts ts' u u' ms k old mid new is unlike held a (inr l) =
    let same : l.0 ≡ k = ap (pick k) (sym l.2 ∙ a.1 ∙ is) in
    let d = l.1 in (
      inl (
        l.5,
        (
          d,
          sym (ap₂ (λ x y. converted of_json (value x y)) a.3 a.4) ∙ l.3,
          unlike_stands rows ts ts' ms k d old.seen new.seen unlike a.0 (l.7 ∙ a.2) held.1,
          l.4 ∙ ap₂ (λ x y. put x d y) same held.2 ∙ sym (others_put_other rows k d ms unlike held.0),
        ),
      ),
      l.8 ∙ a.3,
    )

came_other : (keeps : Bool) (rows : Rows) (ts ts' : Trees) (u u' ms : Members) (k : List ℕ) (old mid new : Ahead)
    → old.name ≡ Some k → has_row k rows ≡ false → Holds rows keeps old.seen ms ts u → Apart ts ts' old mid → OthersFrom LeavesNext keeps mid u u' new → new.failed ≡ false
    → Came rows keeps ms k ts' u' old new × (new.depth ≡ old.depth)
came_other true rows ts ts' u u' ms k old mid new is unlike held a h well = left_other rows ts ts' u u' ms k old mid new is unlike held a (h well).1
came_other false rows ts ts' u u' ms k old mid new is unlike held a h well = (
  inr (
    ap (λ s. s.name) h.1 ∙ a.1 ∙ is,
    ap (λ s. s.tokens) h.1 ∙ a.4,
    λ d. (unlike_stands rows ts ts' ms k d old.seen new.seen unlike a.0 (ap (λ s. s.seen) h.1 ∙ a.2) held.1, h.0),
  ),
  ap (λ s. s.depth) h.1 ∙ a.3,
)

others_well : (keeps : Bool) (u u' : Members) (mid new : Ahead) → OthersFrom LeavesNext keeps mid u u' new → new.failed ≡ false → mid.failed ≡ false
others_well true u u' mid new h well = (h well).0
others_well false u u' mid new h well = ap (λ s. s.failed) (sym h.1) ∙ well

came_at : (t : Bool) (keeps : Bool) (rows : Rows) (ts ts' : Trees) (u u' ms : Members) (k : List ℕ) (old mid new : Ahead)
    → has_row k rows ≡ t → are_distinct rows ≡ true → old.name ≡ Some k → old.row ≡ 0 → Holds rows keeps old.seen ms ts u
    → RowsFrom TakesNext old rows ts ts' mid → OthersFrom LeavesNext keeps mid u u' new → new.failed ≡ false
    → Came rows keeps ms k ts' u' old new × (new.depth ≡ old.depth)
came_at true keeps rows ts ts' u u' ms k old mid new b sound is at held h o well =
    came_row keeps rows ts' u u' ms k old mid new b held.2 (taken rows ts ts' 0 ms k old mid is b sound at held.1 h (others_well keeps u u' mid new o well)) o well
came_at false keeps rows ts ts' u u' ms k old mid new b sound is at held h o well =
    came_other keeps rows ts ts' u u' ms k old mid new is b held (apart rows ts ts' old mid (ap (λ x. named_row x rows) is ∙ named_some k rows ∙ b) h (others_well keeps u u' mid new o well)) o well

came : {keeps : Bool} {rows : Rows} {ts ts' : Trees} {u u' : Members} (ms : Members) {k : List ℕ} {old new : Ahead}
    → are_distinct rows ≡ true → old.name ≡ Some k → old.row ≡ 0 → Holds rows keeps old.seen ms ts u
    → ReadsMembers TakesNext LeavesNext rows keeps ts ts' u u' old new → new.failed ≡ false
    → Came rows keeps ms k ts' u' old new × (new.depth ≡ old.depth)
came {keeps} {rows} {ts} {ts'} {u} {u'} ms {k} {old} {new} sound is at held h well =
    came_at (has_row k rows) keeps rows ts ts' u u' ms k old h.mid new refl sound is at held h.rows_from h.others_from well

now_held : (keeps : Bool) (rows : Rows) (ts' : Trees) (u' ms : Members) (k : List ℕ) (old new : Ahead) → Came rows keeps ms k ts' u' old new → new.name ≡ None → InOrder ms
    → (d : Data) × HasValue old.depth old.tokens d new.tokens × Holds rows keeps new.seen (put k d ms) ts' u'
now_held keeps rows ts' u' ms k old new (inl c) none order = (c.1.0, c.1.1, (InOrder-put k c.1.0 ms order, c.1.2, c.1.3))
now_held keeps rows ts' u' ms k old new (inr c) none order = absurd (nothing k (sym none ∙ c.0))

still_held : (keeps : Bool) (rows : Rows) (ts' : Trees) (u' ms : Members) (k : List ℕ) (old new : Ahead) → Came rows keeps ms k ts' u' old new → (new.name ≡ None → ⊥) → InOrder ms
    → (new.tokens ≡ old.tokens) × ((d : Data) → Holds rows keeps new.seen (put k d ms) ts' u')
still_held keeps rows ts' u' ms k old new (inl c) some order = absurd (some c.0)
still_held keeps rows ts' u' ms k old new (inr c) some order = (c.1, λ d. (InOrder-put k d ms order, (c.2 d).0, (c.2 d).1))

-- a row or the other members took it
pub member_taken : {keeps : Bool} {rows : Rows} {ts ts' : Trees} {u u' : Members} (ms : Members) {k : List ℕ} {old new : Ahead}
    → are_distinct rows ≡ true → old.name ≡ Some k → old.row ≡ 0 → Holds rows keeps old.seen ms ts u
    → ReadsMembers TakesNext LeavesNext rows keeps ts ts' u u' old new → new.failed ≡ false → new.name ≡ None
    → ((d : Data) × HasValue old.depth old.tokens d new.tokens × Holds rows keeps new.seen (put k d ms) ts' u') × (new.depth ≡ old.depth)
member_taken {keeps} {rows} {ts} {ts'} {u} {u'} ms {k} {old} {new} sound is at held h well none =
    let c = came ms sound is at held h well in (now_held keeps rows ts' u' ms k old new c.0 none held.0, c.1)

-- no row has its name, and its value is still to be read: whatever it is, it changes nothing
pub member_left : {keeps : Bool} {rows : Rows} {ts ts' : Trees} {u u' : Members} (ms : Members) {k : List ℕ} {old new : Ahead}
    → are_distinct rows ≡ true → old.name ≡ Some k → old.row ≡ 0 → Holds rows keeps old.seen ms ts u
    → ReadsMembers TakesNext LeavesNext rows keeps ts ts' u u' old new → new.failed ≡ false → (new.name ≡ None → ⊥)
    → ((new.tokens ≡ old.tokens) × ((d : Data) → Holds rows keeps new.seen (put k d ms) ts' u')) × (new.depth ≡ old.depth)
member_left {keeps} {rows} {ts} {ts'} {u} {u'} ms {k} {old} {new} sound is at held h well some =
    let c = came ms sound is at held h well in (still_held keeps rows ts' u' ms k old new c.0 some held.0, c.1)

pub starts_held : (rows : Rows) (keeps : Bool) (ts : Trees) (u : Members) (seen : List Bool) → ((i : ℕ) → get_or seen i false ≡ false) → Starts rows ts → u ≡ no_members → Holds rows keeps seen no_members ts u
starts_held rows true ts u seen none h e = (tt, starting rows ts 0 seen none h, e)
starts_held rows false ts u seen none h e = (tt, starting rows ts 0 seen none h, e)

pub all_held : (rule : Rule) (rows : Rows) (keeps : Bool) (ts : Trees) (u : Members) (seen : List Bool) (ms : Members) → ((i : ℕ) → i < required_in rows → get_or seen i false ≡ true)
    → Holds rows keeps seen ms ts u → read (Object rule rows keeps) (json_object ms) ≡ Some (object ts u)
all_held rule rows keeps ts u seen ms all h = rw (ending rows ts 0 seen ms (λ i less. all i (omega (arith, less))) h.1, h.2) refl

-- ---- no row's member was seen yet

none_in : (i : ℕ) → get_or [] i false ≡ false
none_in zero = refl
none_in (suc i) = refl

none_first : (seen : List Bool) → ((i : ℕ) → get_or seen i false ≡ false) → (i : ℕ) → get_or (false ∷ seen) i false ≡ false
none_first seen h zero = refl
none_first seen h (suc i) = h i

pub none_seen : (i : ℕ) → get_or (false ∷ false ∷ false ∷ false ∷ false ∷ false ∷ false ∷ false ∷ []) i false ≡ false
none_seen = none_first (false ∷ false ∷ false ∷ false ∷ false ∷ false ∷ false ∷ []) (none_first (false ∷ false ∷ false ∷ false ∷ false ∷ false ∷ []) (none_first (false ∷ false ∷ false ∷ false ∷ false ∷ []) (none_first (false ∷ false ∷ false ∷ false ∷ []) (none_first (false ∷ false ∷ false ∷ []) (none_first (false ∷ false ∷ []) (none_first (false ∷ []) (none_first [] none_in)))))))

-- ---- a value takes at least one token

pub shorter : (depth : ℕ) (ts rest : List Token) (d : Data) → HasValue depth ts d rest → length rest < length ts
shorter depth ts rest d e = let j = converted_some of_json (value depth ts) d rest e in skip_value-shorter depth ts rest (ap left j.1)
