-- Attributes read in the order of the text, each key once, are those that are read in the order of names.
use Rattle.std.proofs.Common.{◌≡◌, ℕ, List, [], ◌∷◌, Bool, true, false, cond, Option, Some, None, option_map, nat_cmp, refl, sym, ap, ◌∙◌, Ordering, Less, Equal, Greater, is_eq, true≢false}
use Rattle.std.proofs.lemmas.Cmp.{tied_itself}
use Rattle.std.specs.BTreeMap.{insert_entry, is_at}
use Rattle.std.specs.Cmp.{IsTotalOrder}
use Rattle.std.specs.Cmp.Lexicographic.{slice_cmp}
use Rattle.std.specs.Map.{lookup}
use Rattle.std.specs.Ordering.{match_ordering, ordering_reverse}
use Rattle.serde_json.specs.Data.{Data, Members, no_members, member, put}
use Rattle.gltf_base.specs.Keys.{Key, key_cmp}
use Rattle.gltf_base.specs.Names.{key_named}
use Rattle.gltf_schema.specs.Attributes.{index_at}
use Rattle.gltf_schema.specs.Maybe.{◌>>=◌}
use Rattle.gltf_schema.specs.Read.{read_entries, small_number}
use Rattle.gltf_schema.proofs.AttributesBack.{keys_total}
use Rattle.gltf_schema.proofs.Entries.{meant, inserted}
use Rattle.gltf_schema.proofs.LastNames.{found}
use Rattle.gltf_schema.proofs.PuttingIn.{same_name}

none_of : {V : Type 0} (b : Bool) (v : V) (r : Option V) → cond b (Some v) r ≡ None → (b ≡ false) × (r ≡ None)
none_of true v r e = absurd cc
none_of false v r e = (refl, e)

module _ {K : Type 0} {R : K → K → Ordering} (o : IsTotalOrder R) where
  over : (x y : K) → R x y ≡ Less → R y x ≡ Greater
  over x y less = o.antisymm y x ∙ ap ordering_reverse less

  under : (x y : K) → R x y ≡ Greater → R y x ≡ Less
  under x y more = o.antisymm y x ∙ ap ordering_reverse more

module _ {K V : Type 0} {R : K → K → Ordering} (o : IsTotalOrder R) where
  -- a key that is not there once another was inserted
  absent : (q : K) (es : List (K × V)) (k : K) (v : V) → lookup (is_at (R q)) (insert_entry R es k v) ≡ None → (is_eq (R q k) ≡ false) × (lookup (is_at (R q)) es ≡ None)
  absent q es k v none = none_of (is_eq (R q k)) v (lookup (is_at (R q)) es) (sym (found o q es k v) ∙ none)

  -- ---- two entries inserted

  swap_at : (s t : Ordering) (x y : K) (i j : V) (e : K × V) (es : List (K × V)) → R x e.0 ≡ s → R y e.0 ≡ t → R x y ≡ Less
      → insert_entry R (insert_entry R es y j) x i ≡ insert_entry R (insert_entry R es x i) y j
      → insert_entry R (insert_entry R (e ∷ es) y j) x i ≡ insert_entry R (insert_entry R (e ∷ es) x i) y j
  swap_at Less Less x y i j e es at_x at_y less later = rw (at_x, at_y, less, over o x y less) refl
  swap_at Less Equal x y i j e es at_x at_y less later = rw (at_x, at_y, over o x y less, at_x) refl
  swap_at Less Greater x y i j e es at_x at_y less later = rw (at_x, at_y, over o x y less, at_x) refl
  swap_at Equal t x y i j e es at_x at_y less later =
      let above : R y e.0 ≡ Greater = over o e.0 y (sym (o.congr x e.0 y at_x) ∙ less) in
      rw (at_x, above, at_x) refl
  swap_at Greater t x y i j e es at_x at_y less later =
      let above : R y e.0 ≡ Greater = over o e.0 y (o.trans e.0 x y (under o x e.0 at_x) less) in
      rw (at_x, above, at_x) (ap (λ r. e ∷ r) later)

  swap_less : (x y : K) (i j : V) (es : List (K × V)) → R x y ≡ Less → insert_entry R (insert_entry R es y j) x i ≡ insert_entry R (insert_entry R es x i) y j
  swap_less x y i j [] less = rw (less, over o x y less) refl
  swap_less x y i j (e ∷ es) less = swap_at _ _ x y i j e es refl refl less (swap_less x y i j es less)

  swap_by : (s : Ordering) (x y : K) (i j : V) (es : List (K × V)) → R x y ≡ s → is_eq s ≡ false → insert_entry R (insert_entry R es y j) x i ≡ insert_entry R (insert_entry R es x i) y j
  swap_by Less x y i j es is other = swap_less x y i j es is
  swap_by Equal x y i j es is other = absurd (true≢false other)
  swap_by Greater x y i j es is other = sym (swap_less y x j i es (under o x y is))

  -- entries of two keys can be inserted either way round
  swapped : (x y : K) (i j : V) (es : List (K × V)) → is_eq (R x y) ≡ false → insert_entry R (insert_entry R es y j) x i ≡ insert_entry R (insert_entry R es x i) y j
  swapped x y i j es other = swap_by (R x y) x y i j es refl other

-- ---- members as entries

-- entries stay when members are read
gone : (q : Key) (ms : Members) (es fs : List (Key × ℕ)) → read_entries es ms ≡ Some fs → index_at q fs ≡ None → index_at q es ≡ None
gone q no_members es fs h none = ap (λ o. index_at q (get_entries o)) h ∙ none
  where
    get_entries : Option (List (Key × ℕ)) → List (Key × ℕ)
    get_entries None = []
    get_entries (Some l) = l
gone q (member n d ms) es fs h none = by (small_number d) h (λ v. gone q ms (insert_entry key_cmp es (key_named n) v) fs)
  where
    by : (i : Option ℕ) → (i >>= λ v. read_entries (insert_entry key_cmp es (key_named n) v) ms) ≡ Some fs
        → ((v : ℕ) → read_entries (insert_entry key_cmp es (key_named n) v) ms ≡ Some fs → index_at q fs ≡ None → index_at q (insert_entry key_cmp es (key_named n) v) ≡ None) → index_at q es ≡ None
    by None e later = absurd cc
    by (Some v) e later = (absent keys_total q es (key_named n) v (later v e none)).1

-- a key that no member means can as well come first
late : (q : Key) (i : ℕ) (ms : Members) (es fs : List (Key × ℕ)) → read_entries es ms ≡ Some fs → index_at q fs ≡ None → read_entries (insert_entry key_cmp es q i) ms ≡ Some (insert_entry key_cmp fs q i)
late q i no_members es fs h none = ap (option_map (λ x. insert_entry key_cmp x q i)) h
late q i (member n d ms) es fs h none = by (small_number d) h (λ v. late q i ms (insert_entry key_cmp es (key_named n) v) fs)
  where
    by : (o : Option ℕ) → (o >>= λ v. read_entries (insert_entry key_cmp es (key_named n) v) ms) ≡ Some fs
        → ((v : ℕ) → read_entries (insert_entry key_cmp es (key_named n) v) ms ≡ Some fs → index_at q fs ≡ None → read_entries (insert_entry key_cmp (insert_entry key_cmp es (key_named n) v) q i) ms ≡ Some (insert_entry key_cmp fs q i))
        → (o >>= λ v. read_entries (insert_entry key_cmp (insert_entry key_cmp es q i) (key_named n) v) ms) ≡ Some (insert_entry key_cmp fs q i)
    by None e later = absurd cc
    by (Some v) e later =
        let other = (absent keys_total q es (key_named n) v (gone q ms (insert_entry key_cmp es (key_named n) v) fs e none)).0 in
        ap (λ x. read_entries x ms) (sym (swapped keys_total q (key_named n) i v es other)) ∙ later v e none

-- a member more, of a key that is not there
pub one_more : (k : List ℕ) (d : Data) (i : ℕ) (ms : Members) (es fs : List (Key × ℕ)) → small_number d ≡ Some i → read_entries es ms ≡ Some fs → index_at (key_named k) fs ≡ None
    → read_entries es (put k d ms) ≡ Some (insert_entry key_cmp fs (key_named k) i)
one_more k d i no_members es fs number h none = rw number (late (key_named k) i no_members es fs h none)
one_more k d i (member l e ms) es fs number h none = at (slice_cmp nat_cmp k l) refl (λ v g. one_more k d i ms (insert_entry key_cmp es (key_named l) v) fs number g none)
  where
    by : (o : Option ℕ) → (o >>= λ v. read_entries (insert_entry key_cmp es (key_named l) v) ms) ≡ Some fs
        → ((v : ℕ) → read_entries (insert_entry key_cmp es (key_named l) v) ms ≡ Some fs → read_entries (insert_entry key_cmp es (key_named l) v) (put k d ms) ≡ Some (insert_entry key_cmp fs (key_named k) i))
        → (o >>= λ v. read_entries (insert_entry key_cmp es (key_named l) v) (put k d ms)) ≡ Some (insert_entry key_cmp fs (key_named k) i)
    by None g later = absurd cc
    by (Some v) g later = later v g

    clash : (o : Option ℕ) → k ≡ l → (o >>= λ v. read_entries (insert_entry key_cmp es (key_named l) v) ms) ≡ Some fs → ⊥
    clash None tied g = absurd cc
    clash (Some v) tied g =
        let other = (absent keys_total (key_named k) es (key_named l) v (gone (key_named k) ms (insert_entry key_cmp es (key_named l) v) fs g none)).0 in
        true≢false (sym (ap is_eq (tied_itself keys_total (key_named k))) ∙ ap (λ x. is_eq (key_cmp (key_named k) (key_named x))) tied ∙ other)

    at : (s : Ordering) → slice_cmp nat_cmp k l ≡ s
        → ((v : ℕ) → read_entries (insert_entry key_cmp es (key_named l) v) ms ≡ Some fs → read_entries (insert_entry key_cmp es (key_named l) v) (put k d ms) ≡ Some (insert_entry key_cmp fs (key_named k) i))
        → read_entries es (match_ordering s (member k d (member l e ms)) (member l d ms) (member l e (put k d ms))) ≡ Some (insert_entry key_cmp fs (key_named k) i)
    at Less is later = rw number (late (key_named k) i (member l e ms) es fs h none)
    at Equal is later = absurd (clash (small_number e) (same_name k l is) h)
    at Greater is later = by (small_number e) h later

-- ---- a key is looked up by what it means

missing_at : {V W : Type 0} (b c : Bool) (v : V) (w : W) (r : Option V) (s : Option W) → b ≡ c → (r ≡ None → s ≡ None) → cond b (Some v) r ≡ None → cond c (Some w) s ≡ None
missing_at true true v w r s is later e = absurd cc
missing_at true false v w r s is later e = absurd cc
missing_at false true v w r s is later e = absurd cc
missing_at false false v w r s is later e = later e

-- no entry has what the key means, if none has the key
missing : {K L V W : Type 0} (cmp : K → K → Ordering) (cmp' : L → L → Ordering) (key : K → L) (value : V → W) → ((a b : K) → cmp a b ≡ cmp' (key a) (key b))
    → (es : List (K × V)) (k : K) → lookup (is_at (cmp k)) es ≡ None → lookup (is_at (cmp' (key k))) (meant key value es) ≡ None
missing cmp cmp' key value same [] k e = refl
missing cmp cmp' key value same (x ∷ es) k e =
    missing_at (is_eq (cmp k x.0)) (is_eq (cmp' (key k) (key x.0))) x.1 (value x.1) _ _ (ap is_eq (same k x.0)) (missing cmp cmp' key value same es k) e

-- a new key's entry goes where the entry that it means does
pub entry_inserted : {K L V W : Type 0} (cmp : K → K → Ordering) (cmp' : L → L → Ordering) (key : K → L) (value : V → W) (es fs : List (K × V)) (k : K) (v : V) (before : Option V)
    → fs ≡ insert_entry cmp es k v → before ≡ lookup (is_at (cmp k)) es → before ≡ None → ((a b : K) → cmp a b ≡ cmp' (key a) (key b))
    → (meant key value fs ≡ insert_entry cmp' (meant key value es) (key k) (value v)) × (lookup (is_at (cmp' (key k))) (meant key value es) ≡ None)
entry_inserted cmp cmp' key value es fs k v before is was none same = (
  ap (meant key value) is ∙ inserted cmp cmp' key value same es k v,
  missing cmp cmp' key value same es k (sym was ∙ none),
)
