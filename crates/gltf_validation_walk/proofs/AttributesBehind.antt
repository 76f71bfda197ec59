-- The attributes behind a key, as a range of their map.
use Rattle.std.proofs.Common.{◌≡◌, ℕ, List, [], ◌∷◌, map, Bool, true, false, cond, ◌&&◌, not, Option, Some, None, Bor, refl, sym, ap, ◌∙◌, subst, Ordering, Less, Equal, Greater}
use Rattle.std.proofs.lemmas.Bool.{false≢true}
use Rattle.std.specs.BTreeMap.Range.{entries_between}
use Rattle.std.specs.Cmp.{tied_itself}
use Rattle.std.specs.List.{AllByRecursion, filter}
use Rattle.std.specs.List.Sorted.{IsStrictlySortedBy}
use Rattle.std.specs.Map.{keys_of}
use Rattle.std.specs.Map.Iter.{TakesFirst, deref_pair}
use Rattle.std.specs.Ordering.{is_lt, ordering_reverse}
use Rattle.std.specs.declared.ops.Bound.TheVariants.{Excluded, Unbounded}
use Rattle.gltf_base.specs.Keys.{Key, key_cmp}
use Rattle.gltf_base.specs.Semantics.{checked_key}
use Rattle.gltf_base.specs.declared.mesh.Semantic.{Semantic}
use Rattle.gltf_base.specs.declared.validation.Checked.{Checked}
use Rattle.gltf_base.specs.Indexes.{index_number}
use Rattle.gltf_base.specs.declared.index.IndexTo.{IndexTo}
use Rattle.gltf_schema.specs.Fields.{entry_of}
use Rattle.gltf_schema.proofs.AttributesBack.{keys_total}
use Rattle.gltf_validation_walk.specs.Rest.{entries_behind, IsFirstBehind}

-- ---- entries in the order of their keys

abbrev behind : Key → List (Key × ℕ) → List (Key × ℕ)
behind k es = filter (λ e. is_lt (key_cmp k e.0)) es

abbrev AreAbove : Key → List Key → Type 0
AreAbove k ks = AllByRecursion (λ y. key_cmp k y ≡ Less) ks

less_from : (o : Ordering) → is_lt o ≡ true → o ≡ Less
less_from Less h = refl
less_from Equal h = absurd (false≢true h)
less_from Greater h = absurd (false≢true h)

-- all are behind a key that is below them
all_behind : (k : Key) (es : List (Key × ℕ)) → AreAbove k (keys_of es) → behind k es ≡ es
all_behind k [] h = refl
all_behind k (e ∷ es) h = rw (h.0, all_behind k es h.1) refl

above_lower : (j k : Key) (ks : List Key) → key_cmp j k ≡ Less → AreAbove k ks → AreAbove j ks
above_lower j k [] less h = tt
above_lower j k (x ∷ ks) less h = (keys_total.trans j k x less h.0, above_lower j k ks less h.1)

-- what holds of all keys holds of the first that is behind a key
first_among : (P : Key → Type 0) (k : Key) (es : List (Key × ℕ)) (e : Key × ℕ) (rest : List (Key × ℕ)) → AllByRecursion P (keys_of es) → behind k es ≡ e ∷ rest → P e.0
first_among P k [] e rest all h = absurd cc
first_among P k (x ∷ xs) e rest all h = either (is_lt (key_cmp k x.0)) h (first_among P k xs e rest all.1)
  where
    either : (b : Bool) → cond b (x ∷ behind k xs) (behind k xs) ≡ e ∷ rest → (behind k xs ≡ e ∷ rest → P e.0) → P e.0
    either true g later = let here : x ≡ e = cc in subst (λ y. P y.0) here all.0
    either false g later = later g

-- behind the first of all entries are the others
behind_first : (es : List (Key × ℕ)) (e : Key × ℕ) (rest : List (Key × ℕ)) → IsStrictlySortedBy key_cmp (keys_of es) → es ≡ e ∷ rest → behind e.0 es ≡ rest
unfolding IsStrictlySortedBy
behind_first [] e rest sorted h = absurd cc
behind_first (x ∷ xs) e rest sorted h =
    let here : x ≡ e = cc in
    let others : xs ≡ rest = cc in
    let whole : behind x.0 (x ∷ xs) ≡ rest = rw (tied_itself keys_total x.0) (all_behind x.0 xs sorted.0 ∙ others) in
    subst (λ y. behind y.0 (x ∷ xs) ≡ rest) here whole

-- behind the first of those behind a key are the others of them
behind_next : (k : Key) (es : List (Key × ℕ)) (e : Key × ℕ) (rest : List (Key × ℕ)) → IsStrictlySortedBy key_cmp (keys_of es) → behind k es ≡ e ∷ rest → behind e.0 es ≡ rest
unfolding IsStrictlySortedBy
behind_next k [] e rest sorted h = absurd cc
behind_next k (x ∷ xs) e rest sorted h = either (is_lt (key_cmp k x.0)) refl h (behind_next k xs e rest sorted.1)
  where
    either : (b : Bool) → is_lt (key_cmp k x.0) ≡ b → cond b (x ∷ behind k xs) (behind k xs) ≡ e ∷ rest → (behind k xs ≡ e ∷ rest → behind e.0 xs ≡ rest) → behind e.0 (x ∷ xs) ≡ rest
    either true is g later =
        let here : x ≡ e = cc in
        let others : behind k xs ≡ rest = cc in
        let low = above_lower k x.0 (keys_of xs) (less_from (key_cmp k x.0) is) sorted.0 in
        let whole : behind x.0 (x ∷ xs) ≡ rest = rw (tied_itself keys_total x.0) (all_behind x.0 xs sorted.0 ∙ sym (all_behind k xs low) ∙ others) in
        subst (λ y. behind y.0 (x ∷ xs) ≡ rest) here whole
    either false is g later =
        let less = first_among (λ y. key_cmp x.0 y ≡ Less) k xs e rest sorted.0 g in
        let greater : key_cmp e.0 x.0 ≡ Greater = keys_total.antisymm e.0 x.0 ∙ ap ordering_reverse less in
        rw greater (later g)

first_behind : (b : Option (Bor (Checked Semantic))) (es : List (Key × ℕ)) (k : Bor (Checked Semantic)) (n : ℕ) (rest : List (Key × ℕ)) → IsStrictlySortedBy key_cmp (keys_of es)
    → entries_behind b es ≡ (checked_key k.now, n) ∷ rest → entries_behind b es ≡ (checked_key k.now, n) ∷ entries_behind (Some k) es
first_behind None es k n rest sorted h = h ∙ ap (λ l. (checked_key k.now, n) ∷ l) (sym (behind_first es (checked_key k.now, n) rest sorted h))
first_behind (Some j) es k n rest sorted h = h ∙ ap (λ l. (checked_key k.now, n) ∷ l) (sym (behind_next (checked_key j.now) es (checked_key k.now, n) rest sorted h))

-- ---- the first entry of a map behind a key, or of all

comes : {P : Type 0} (b : Option (Bor (Checked Semantic))) (es fs gs : List (Checked Semantic × IndexTo P)) (r : Option (Bor (Checked Semantic) × Bor (IndexTo P)))
    → IsStrictlySortedBy key_cmp (keys_of (map entry_of es)) → map entry_of fs ≡ entries_behind b (map entry_of es) → TakesFirst deref_pair fs r gs → IsFirstBehind b es r
comes b es fs gs None sorted shown taken = sym shown ∙ ap (map entry_of) taken.0
comes b es fs gs (Some e) sorted shown taken = first_behind b (map entry_of es) e.0 (index_number e.1.now) (map entry_of gs) sorted (sym shown ∙ ap (map entry_of) taken)

meant_kept : {P : Type 0} (b : Bool) (e : Checked Semantic × IndexTo P) (es : List (Checked Semantic × IndexTo P))
    → map entry_of (cond (b && not false) (e ∷ es) es) ≡ cond b (entry_of e ∷ map entry_of es) (map entry_of es)
meant_kept true e es = refl
meant_kept false e es = refl

-- keys are ordered as what they mean
module _ {P : Type 0} (cmp : Checked Semantic → Checked Semantic → Ordering) (same : (a b : Checked Semantic) → cmp a b ≡ key_cmp (checked_key a) (checked_key b)) where
  meant_above : (k : Checked Semantic) (es : List (Checked Semantic × IndexTo P)) → AllByRecursion (λ y. cmp k y ≡ Less) (keys_of es) → AreAbove (checked_key k) (keys_of (map entry_of es))
  meant_above k [] h = tt
  meant_above k (e ∷ es) h = (sym (same k e.0) ∙ h.0, meant_above k es h.1)

  meant_sorted : (es : List (Checked Semantic × IndexTo P)) → IsStrictlySortedBy cmp (keys_of es) → IsStrictlySortedBy key_cmp (keys_of (map entry_of es))
  unfolding IsStrictlySortedBy
  meant_sorted [] h = tt
  meant_sorted (e ∷ es) h = (meant_above e.0 es h.0, meant_sorted es h.1)

  meant_behind : (k : Bor (Checked Semantic)) (es : List (Checked Semantic × IndexTo P)) → map entry_of (entries_between cmp (Excluded k.now) Unbounded es) ≡ entries_behind (Some k) (map entry_of es)
  meant_behind k [] = refl
  meant_behind k (e ∷ es) =
      meant_kept (is_lt (cmp k.now e.0)) e (entries_between cmp (Excluded k.now) Unbounded es)
      ∙ rw (same k.now e.0, meant_behind k es) refl

  -- the first of a range behind a key
  pub range_comes : (k : Bor (Checked Semantic)) (es fs gs : List (Checked Semantic × IndexTo P)) (r : Option (Bor (Checked Semantic) × Bor (IndexTo P))) → IsStrictlySortedBy cmp (keys_of es)
      → fs ≡ entries_between cmp (Excluded k.now) Unbounded es → TakesFirst deref_pair fs r gs → IsFirstBehind (Some k) es r
  range_comes k es fs gs r sorted shown taken = comes (Some k) es fs gs r (meant_sorted es sorted) (ap (map entry_of) shown ∙ meant_behind k es) taken

  -- the first of all
  pub all_come : (es fs gs : List (Checked Semantic × IndexTo P)) (r : Option (Bor (Checked Semantic) × Bor (IndexTo P))) → IsStrictlySortedBy cmp (keys_of es)
      → fs ≡ es → TakesFirst deref_pair fs r gs → IsFirstBehind None es r
  all_come es fs gs r sorted shown taken = comes None es fs gs r (meant_sorted es sorted) (ap (map entry_of) shown) taken
