-- Attributes that were written are read back.
use Rattle.std.proofs.Common.{◌≡◌, ℕ, ◌^◌, List, [], ◌∷◌, Bool, true, false, cond, nat_lt, nat_cmp, Option, Some, None, refl, sym, ap, ◌∙◌, subst, Ordering, Less, Equal, Greater, true≢false}
use Rattle.std.specs.Prelude.{⊤}
use Rattle.std.proofs.lemmas.Bool.{false≢true, and_parts}
use Rattle.std.specs.BTreeMap.{insert_entry}
use Rattle.std.specs.Cmp.{IsTotalOrder, alike_right, tied_itself, on_total}
use Rattle.std.specs.Cmp.Lexicographic.{slice_cmp, nat_list_cmp_total}
use Rattle.std.specs.Ordering.{match_ordering, ordering_then, ordering_reverse, on, is_lt}
use Rattle.serde_json.specs.Data.{Data, number, unsigned, Members, no_members, member, put}
use Rattle.gltf_base.specs.Keys.{Key, extras, positions, normals, tangents, colors, tex_coords, joints, weights, unknown, key_text, key_cmp}
use Rattle.gltf_base.specs.Names.{key_named, is_named}
use Rattle.gltf_base.proofs.KeyLemmas.{key_named-key_text}
use Rattle.gltf_schema.specs.Maybe.{◌>>=◌}
use Rattle.gltf_schema.specs.Read.{read_entries, small_number}
use Rattle.gltf_schema.specs.Write.{write_entries, are_in_order, key_name, small_data}
use Rattle.gltf_schema.proofs.ReadPlain.{bound}
use Rattle.gltf_schema.proofs.PuttingIn.{same_name}

-- ---- keys are ordered as lists of numbers

abbrev key_numbers : Key → List ℕ
key_numbers (extras name) = 0 ∷ name
key_numbers positions = 1 ∷ []
key_numbers normals = 2 ∷ []
key_numbers tangents = 3 ∷ []
key_numbers (colors set) = 4 ∷ set ∷ []
key_numbers (tex_coords set) = 5 ∷ set ∷ []
key_numbers (joints set) = 6 ∷ set ∷ []
key_numbers (weights set) = 7 ∷ set ∷ []
key_numbers unknown = 8 ∷ []

then_same : (o : Ordering) → ordering_then o Equal ≡ o
then_same Less = refl
then_same Equal = refl
then_same Greater = refl

as_numbers : (a b : Key) → on key_numbers (slice_cmp nat_cmp) a b ≡ key_cmp a b
as_numbers (extras a) (extras b) = refl
as_numbers positions positions = refl
as_numbers normals normals = refl
as_numbers tangents tangents = refl
as_numbers (colors a) (colors b) = then_same (nat_cmp a b)
as_numbers (tex_coords a) (tex_coords b) = then_same (nat_cmp a b)
as_numbers (joints a) (joints b) = then_same (nat_cmp a b)
as_numbers (weights a) (weights b) = then_same (nat_cmp a b)
as_numbers unknown unknown = refl
as_numbers _ _ = refl

-- the order of keys is total
pub keys_total : IsTotalOrder key_cmp
keys_total = subst (λ R. IsTotalOrder R) (λ i a b. as_numbers a b i) (on_total key_numbers nat_list_cmp_total)

-- ---- entries of two keys are inserted in either order

above : {K : Type 0} {R : K → K → Ordering} → IsTotalOrder R → (a b : K) → R a b ≡ Less → R b a ≡ Greater
above o a b below = o.antisymm b a ∙ ap ordering_reverse below

module _ {K V : Type 0} {R : K → K → Ordering} (o : IsTotalOrder R) where
  either_at : (p q : Ordering) (a b : K) (u v : V) (e : K × V) (es : List (K × V)) → R a b ≡ Less → R a e.0 ≡ p → R b e.0 ≡ q
      → insert_entry R (insert_entry R es a u) b v ≡ insert_entry R (insert_entry R es b v) a u
      → insert_entry R (match_ordering p ((a, u) ∷ e ∷ es) ((e.0, u) ∷ es) (e ∷ insert_entry R es a u)) b v
      ≡ insert_entry R (match_ordering q ((b, v) ∷ e ∷ es) ((e.0, v) ∷ es) (e ∷ insert_entry R es b v)) a u
  either_at Less Less a b u v e es below at_a at_b later = rw (above o a b below, at_b, below) refl
  either_at Less Equal a b u v e es below at_a at_b later = rw (above o a b below, at_b, at_a) refl
  either_at Less Greater a b u v e es below at_a at_b later = rw (above o a b below, at_b, at_a) refl
  either_at Equal Less a b u v e es below at_a at_b later = absurd (true≢false (ap is_lt (sym (o.trans a b e.0 below at_b) ∙ at_a)))
  either_at Equal Equal a b u v e es below at_a at_b later = absurd (true≢false (ap is_lt (sym below ∙ alike_right o b e.0 a at_b ∙ at_a)))
  either_at Equal Greater a b u v e es below at_a at_b later = rw (at_b, at_a) refl
  either_at Greater Less a b u v e es below at_a at_b later = absurd (true≢false (ap is_lt (sym (o.trans a b e.0 below at_b) ∙ at_a)))
  either_at Greater Equal a b u v e es below at_a at_b later = absurd (true≢false (ap is_lt (sym below ∙ alike_right o b e.0 a at_b ∙ at_a)))
  either_at Greater Greater a b u v e es below at_a at_b later = rw (at_b, at_a) (ap (λ l. e ∷ l) later)

  either_order : (a b : K) (u v : V) (es : List (K × V)) → R a b ≡ Less → insert_entry R (insert_entry R es a u) b v ≡ insert_entry R (insert_entry R es b v) a u
  either_order a b u v [] below = rw (above o a b below, below) refl
  either_order a b u v (e ∷ es) below = either_at _ _ a b u v e es below refl refl (either_order a b u v es below)

-- ---- a member whose key is behind those of the others

-- each name's key is before the key
abbrev AllBefore : Key → Members → Type 0
AllBefore key no_members = ⊤
AllBefore key (member n d ms) = (key_cmp (key_named n) key ≡ Less) × AllBefore key ms

before_later : (a b : Key) (ms : Members) → key_cmp a b ≡ Less → AllBefore a ms → AllBefore b ms
before_later a b no_members less before = tt
before_later a b (member n d ms) less before = (keys_total.trans (key_named n) a b before.0 less, before_later a b ms less before.1)

before_put_at : (o : Ordering) (key : Key) (n l : List ℕ) (d e : Data) (ms : Members) → key_cmp (key_named n) key ≡ Less → AllBefore key (member l e ms) → AllBefore key (put n d ms)
    → AllBefore key (match_ordering o (member n d (member l e ms)) (member l d ms) (member l e (put n d ms)))
before_put_at Less key n l d e ms less before later = (less, before)
before_put_at Equal key n l d e ms less before later = before
before_put_at Greater key n l d e ms less before later = (before.0, later)

before_put : (key : Key) (n : List ℕ) (d : Data) (ms : Members) → key_cmp (key_named n) key ≡ Less → AllBefore key ms → AllBefore key (put n d ms)
before_put key n d no_members less before = (less, tt)
before_put key n d (member l e ms) less before = before_put_at (slice_cmp nat_cmp n l) key n l d e ms less before (before_put key n d ms less before.1)

-- is read first, wherever it stands
read_put_at : (o : Ordering) (n l : List ℕ) (d e : Data) (i : ℕ) (es : List (Key × ℕ)) (ms : Members) → slice_cmp nat_cmp n l ≡ o → small_number d ≡ Some i → key_cmp (key_named l) (key_named n) ≡ Less
    → ((fs : List (Key × ℕ)) → read_entries fs (put n d ms) ≡ read_entries (insert_entry key_cmp fs (key_named n) i) ms)
    → read_entries es (match_ordering o (member n d (member l e ms)) (member l d ms) (member l e (put n d ms))) ≡ read_entries (insert_entry key_cmp es (key_named n) i) (member l e ms)
read_put_at Less n l d e i es ms is small before later = rw small refl
read_put_at Equal n l d e i es ms is small before later =
    absurd (true≢false (ap is_lt (sym before ∙ ap (λ m. key_cmp (key_named l) (key_named m)) (same_name n l is) ∙ tied_itself keys_total (key_named l))))
read_put_at Greater n l d e i es ms is small before later = each (small_number e)
  where
    each : (r : Option ℕ) → (r >>= λ j. read_entries (insert_entry key_cmp es (key_named l) j) (put n d ms))
        ≡ (r >>= λ j. read_entries (insert_entry key_cmp (insert_entry key_cmp es (key_named n) i) (key_named l) j) ms)
    each None = refl
    each (Some j) = later (insert_entry key_cmp es (key_named l) j) ∙ ap (λ fs. read_entries fs ms) (either_order keys_total (key_named l) (key_named n) j i es before)

read_put : (n : List ℕ) (d : Data) (i : ℕ) (es : List (Key × ℕ)) (ms : Members) → small_number d ≡ Some i → AllBefore (key_named n) ms
    → read_entries es (put n d ms) ≡ read_entries (insert_entry key_cmp es (key_named n) i) ms
read_put n d i es no_members small before = rw small refl
read_put n d i es (member l e ms) small before = read_put_at _ n l d e i es ms refl small before.0 (λ fs. read_put n d i fs ms small before.1)

-- ---- one entry

named_back_at : (b : Bool) (key : Key) (n : List ℕ) → is_named key ≡ b → cond b (Some (key_text key)) None ≡ Some n → key_named n ≡ key
named_back_at true key n is h =
    let text : key_text key ≡ n = cc in
    ap key_named (sym text) ∙ key_named-key_text key is
named_back_at false key n is h = absurd cc

-- a key's name is read as the key
named_back : (key : Key) (n : List ℕ) → key_name key ≡ Some n → key_named n ≡ key
named_back key n h = named_back_at _ key n refl h

small_back_at : (b : Bool) (n : ℕ) (d : Data) → nat_lt n (2 ^ 32) ≡ b → cond b (Some (number (unsigned n))) None ≡ Some d → small_number d ≡ Some n
small_back_at true n d is h =
    let same : number (unsigned n) ≡ d = cc in
    rw (← same, is) refl
small_back_at false n d is h = absurd cc

pub small_back : (n : ℕ) (d : Data) → small_data n ≡ Some d → small_number d ≡ Some n
small_back n d h = small_back_at _ n d refl h

-- ---- all entries

-- the last entry first
abbrev inserted_all : List (Key × ℕ) → List (Key × ℕ)
inserted_all [] = []
inserted_all (e ∷ es) = insert_entry key_cmp (inserted_all es) e.0 e.1

is_lt_from : (o : Ordering) → is_lt o ≡ true → o ≡ Less
is_lt_from Less h = refl
is_lt_from Equal h = absurd (false≢true h)
is_lt_from Greater h = absurd (false≢true h)

in_order : (es : List (Key × ℕ)) → are_in_order es ≡ true → inserted_all es ≡ es
in_order [] h = refl
in_order (e ∷ []) h = refl
in_order (e ∷ f ∷ es) h =
    let less = is_lt_from (key_cmp e.0 f.0) (and_parts _ (are_in_order (f ∷ es)) h).0 in
    ap (λ l. insert_entry key_cmp l e.0 e.1) (in_order (f ∷ es) (and_parts (is_lt (key_cmp e.0 f.0)) _ h).1) ∙ rw less refl

-- the first key is behind those of the members
abbrev StandBefore : Members → List (Key × ℕ) → Type 0
StandBefore ms [] = ⊤
StandBefore ms (e ∷ es) = AllBefore e.0 ms

next_before : (e : Key × ℕ) (es : List (Key × ℕ)) (n : List ℕ) (d : Data) (ms : Members) → are_in_order (e ∷ es) ≡ true → key_named n ≡ e.0 → AllBefore e.0 ms → StandBefore (put n d ms) es
next_before e [] n d ms ordered named before = tt
next_before e (f ∷ es) n d ms ordered named before =
    let less = is_lt_from (key_cmp e.0 f.0) (and_parts _ (are_in_order (f ∷ es)) ordered).0 in
    before_put f.0 n d ms (ap (λ k. key_cmp k f.0) named ∙ less) (before_later e.0 f.0 ms less before)

pub tail_in_order : (e : Key × ℕ) (es : List (Key × ℕ)) → are_in_order (e ∷ es) ≡ true → are_in_order es ≡ true
tail_in_order e [] ordered = refl
tail_in_order e (f ∷ es) ordered = (and_parts (is_lt (key_cmp e.0 f.0)) _ ordered).1

entries_back : (es : List (Key × ℕ)) (old new : Members) → are_in_order es ≡ true → StandBefore old es → write_entries es old ≡ Some new
    → read_entries [] new ≡ read_entries (inserted_all es) old
entries_back [] old new ordered before h = let same : old ≡ new = cc in rw (← same) refl
entries_back (e ∷ es) old new ordered before h =
    let name = bound (key_name e.0) (λ n. small_data e.1 >>= λ d. write_entries es (put n d old)) new h in
    let value = bound (small_data e.1) (λ d. write_entries es (put name.0 d old)) new name.2 in
    let named = named_back e.0 name.0 name.1 in
    let later = entries_back es (put name.0 value.0 old) new (tail_in_order e es ordered) (next_before e es name.0 value.0 old ordered named before) value.2 in
    later ∙ read_put name.0 value.0 e.1 (inserted_all es) old (small_back e.1 value.0 value.1) (subst (λ k. AllBefore k old) (sym named) before)
    ∙ ap (λ k. read_entries (insert_entry key_cmp (inserted_all es) k e.1) old) named

-- entries in order are read back
pub attributes_back : (es : List (Key × ℕ)) (ms : Members) → are_in_order es ≡ true → write_entries es no_members ≡ Some ms → read_entries [] ms ≡ Some es
attributes_back es ms ordered h = entries_back es no_members ms ordered (none_before es) h ∙ ap Some (in_order es ordered)
  where
    none_before : (es : List (Key × ℕ)) → StandBefore no_members es
    none_before [] = tt
    none_before (e ∷ es) = tt
