-- A node that joins the chain, and one that gets its place.
use Rattle.std.proofs.Common.{◌≡◌, ℕ, ◌<◌, ◌≤◌, ◌+◌, ◌-◌, List, [], ◌∷◌, ◌++◌, length, get_or, Option, Some, refl, sym, ◌∙◌, ap, arith, inl, inr, subst}
use Rattle.std.proofs.Math.ListN.{set, length-set}
use Rattle.std.proofs.lemmas.List.{get_or-set_same, get_or-set_other, get_or_append_left}
use Rattle.std.proofs.Math.Seq.{get_or-append_seam}
use Rattle.std.proofs.lemmas.Bool.{cases_eq, cases_lt}
use Rattle.std.proofs.lemmas.Grind.{common_steps}
use Rattle.gltf_hierarchy.specs.Sorting.{AreSorted, IsAt, IsTopped, parent_of}

pub past_end : (xs : List ℕ) (i : ℕ) → length xs ≤ i → get_or xs i 0 ≡ 0
past_end xs i h = grind (arith, common_steps)

-- what is read is within the list, unless it is 0
pub within : (xs : List ℕ) (i : ℕ) → 0 < get_or xs i 0 → i < length xs
within xs i h = elim (cases_lt i (length xs)) [ inl small ↦ small | inr past ↦ absurd (omega (arith, past_end xs i past)) ]

pub last_read : (xs : List ℕ) (x j : ℕ) → j ≡ length xs → get_or (xs ++ x ∷ []) j 0 ≡ x
last_read xs x j e = rw e (get_or-append_seam xs x [] 0)

pub early_read : (xs : List ℕ) (x j : ℕ) → j < length xs → get_or (xs ++ x ∷ []) j 0 ≡ get_or xs j 0
early_read xs x j h = get_or_append_left xs (x ∷ []) 0 j h

pub length_more : (xs : List ℕ) (x : ℕ) → length (xs ++ x ∷ []) ≡ length xs + 1
length_more xs x = grind (arith, common_steps)

pub pushed_found : (places steps chain : List ℕ) (n m : ℕ) → n < length steps
    → (0 < get_or steps m 0 → get_or places m 0 ≡ 0 → (get_or steps m 0 ≤ length chain) × (get_or chain (get_or steps m 0 - 1) 0 ≡ m))
    → 0 < get_or (set steps n (length chain + 1)) m 0 → get_or places m 0 ≡ 0
    → (get_or (set steps n (length chain + 1)) m 0 ≤ length (chain ++ n ∷ [])) × (get_or (chain ++ n ∷ []) (get_or (set steps n (length chain + 1)) m 0 - 1) 0 ≡ m)
pushed_found places steps chain n m small found stepped unplaced = elim (cases_eq m n) [
  | inl e ↦
      let now : get_or (set steps n (length chain + 1)) m 0 ≡ length chain + 1 = rw e (get_or-set_same steps n (length chain + 1) 0 small) in
      (rw (now, length_more) (omega arith), rw now (last_read chain n (length chain + 1 - 1) (omega arith) ∙ sym e))
  | inr apart ↦
      let now : get_or (set steps n (length chain + 1)) m 0 ≡ get_or steps m 0 = get_or-set_other steps n m (length chain + 1) 0 apart in
      let before = found (subst (λ x. 0 < x) now stepped) unplaced in
      (rw (now, length_more) (omega (arith, before.0)), rw now (early_read chain n (get_or steps m 0 - 1) (omega (arith, before.0, subst (λ x. 0 < x) now stepped)) ∙ before.1))
]

pub pushed_stepped : (places steps chain : List ℕ) (n j : ℕ) → n < length steps → get_or places n 0 ≡ 0 → get_or steps n 0 ≡ 0
    → (j < length chain → (get_or steps (get_or chain j 0) 0 ≡ j + 1) × (get_or places (get_or chain j 0) 0 ≡ 0))
    → j < length (chain ++ n ∷ [])
    → (get_or (set steps n (length chain + 1)) (get_or (chain ++ n ∷ []) j 0) 0 ≡ j + 1) × (get_or places (get_or (chain ++ n ∷ []) j 0) 0 ≡ 0)
pushed_stepped places steps chain n j small unplaced unstepped stepped h = elim (cases_lt j (length chain)) [
  | inl early ↦
      let before = stepped early in
      let apart : get_or chain j 0 ≡ n → ⊥ = λ e. let zero_step : get_or steps (get_or chain j 0) 0 ≡ 0 = rw e unstepped in omega (arith, before.0, zero_step) in
      rw (early_read chain n j early) (get_or-set_other steps n (get_or chain j 0) (length chain + 1) 0 apart ∙ before.0, before.1)
  | inr late ↦
      let e : j ≡ length chain = omega (arith, length_more chain n) in
      rw (last_read chain n j e) (get_or-set_same steps n (length chain + 1) 0 small ∙ ap (λ x. x + 1) (sym e), unplaced)
]

pub pushed_linked : (parents : List (Option ℕ)) (chain : List ℕ) (n j : ℕ) → IsAt parents chain (Some n)
    → (j + 1 < length chain → parent_of parents (get_or chain j 0) ≡ Some (get_or chain (j + 1) 0))
    → j + 1 < length (chain ++ n ∷ [])
    → parent_of parents (get_or (chain ++ n ∷ []) j 0) ≡ Some (get_or (chain ++ n ∷ []) (j + 1) 0)
pushed_linked parents chain n j at linked h = elim (cases_lt (j + 1) (length chain)) [
  | inl early ↦ rw (early_read chain n j (omega arith), early_read chain n (j + 1) early) (linked early)
  | inr late ↦
      let e : j + 1 ≡ length chain = omega (arith, length_more chain n) in
      rw (early_read chain n j (omega arith), last_read chain n (j + 1) e) (at j e)
]

pub pushed : (parents : List (Option ℕ)) (places steps order chain : List ℕ) (n : ℕ) → AreSorted parents places steps order chain → n < length parents → get_or places n 0 ≡ 0 → get_or steps n 0 ≡ 0 → IsAt parents chain (Some n) → AreSorted parents places (set steps n (length chain + 1)) order (chain ++ n ∷ [])
pushed parents places steps order chain n s small unplaced unstepped at = record {
  places_len = s.places_len;
  steps_len = length-set steps n (length chain + 1) ∙ s.steps_len;
  placed = s.placed;
  ordered = s.ordered;
  parents_placed = s.parents_placed;
  found = λ m. pushed_found places steps chain n m (omega (arith, s.steps_len)) (s.found m);
  stepped = λ j. pushed_stepped places steps chain n j (omega (arith, s.steps_len)) unplaced unstepped (s.stepped j);
  linked = λ j. pushed_linked parents chain n j at (s.linked j);
}

-- ---- the last node of the chain gets its place

pub popped_placed : (places order : List ℕ) (n m : ℕ) → n < length places
    → (0 < get_or places m 0 → (get_or places m 0 ≤ length order) × (get_or order (get_or places m 0 - 1) 0 ≡ m))
    → 0 < get_or (set places n (length order + 1)) m 0
    → (get_or (set places n (length order + 1)) m 0 ≤ length (order ++ n ∷ [])) × (get_or (order ++ n ∷ []) (get_or (set places n (length order + 1)) m 0 - 1) 0 ≡ m)
popped_placed places order n m small placed h = elim (cases_eq m n) [
  | inl e ↦
      let now : get_or (set places n (length order + 1)) m 0 ≡ length order + 1 = rw e (get_or-set_same places n (length order + 1) 0 small) in
      (rw (now, length_more) (omega arith), rw now (last_read order n (length order + 1 - 1) (omega arith) ∙ sym e))
  | inr apart ↦
      let now : get_or (set places n (length order + 1)) m 0 ≡ get_or places m 0 = get_or-set_other places n m (length order + 1) 0 apart in
      let some : 0 < get_or places m 0 = subst (λ x. 0 < x) now h in
      let before = placed some in
      (rw (now, length_more) (omega (arith, before.0)), rw now (early_read order n (get_or places m 0 - 1) (omega (arith, before.0, some)) ∙ before.1))
]

pub popped_ordered : (places order : List ℕ) (n i : ℕ) → n < length places → get_or places n 0 ≡ 0
    → (i < length order → get_or places (get_or order i 0) 0 ≡ i + 1)
    → i < length (order ++ n ∷ [])
    → get_or (set places n (length order + 1)) (get_or (order ++ n ∷ []) i 0) 0 ≡ i + 1
popped_ordered places order n i small unplaced ordered h = elim (cases_lt i (length order)) [
  | inl early ↦
      let before = ordered early in
      let apart : get_or order i 0 ≡ n → ⊥ = λ e. let zero_place : get_or places (get_or order i 0) 0 ≡ 0 = rw e unplaced in omega (arith, before, zero_place) in
      rw (early_read order n i early) (get_or-set_other places n (get_or order i 0) (length order + 1) 0 apart ∙ before)
  | inr late ↦
      let e : i ≡ length order = omega (arith, length_more order n) in
      rw (last_read order n i e) (get_or-set_same places n (length order + 1) 0 small ∙ ap (λ x. x + 1) (sym e))
]

pub popped_parents : (parents : List (Option ℕ)) (places order : List ℕ) (n m p : ℕ) → n < length places → get_or places n 0 ≡ 0
    → ((k : ℕ) → 0 < get_or places k 0 → (get_or places k 0 ≤ length order) × (get_or order (get_or places k 0 - 1) 0 ≡ k))
    → (0 < get_or places m 0 → parent_of parents m ≡ Some p → (0 < get_or places p 0) × (get_or places p 0 < get_or places m 0))
    → (parent_of parents n ≡ Some p → 0 < get_or places p 0)
    → 0 < get_or (set places n (length order + 1)) m 0 → parent_of parents m ≡ Some p
    → (0 < get_or (set places n (length order + 1)) p 0) × (get_or (set places n (length order + 1)) p 0 < get_or (set places n (length order + 1)) m 0)
popped_parents parents places order n m p small unplaced placed before topped h parent = elim (cases_eq m n) [
  | inl e ↦
      let above : 0 < get_or places p 0 = topped (subst (λ x. parent_of parents x ≡ Some p) e parent) in
      let apart : p ≡ n → ⊥ = λ same. let zero_place : get_or places p 0 ≡ 0 = rw same unplaced in omega (arith, above, zero_place) in
      let now : get_or (set places n (length order + 1)) m 0 ≡ length order + 1 = rw e (get_or-set_same places n (length order + 1) 0 small) in
      rw (now, get_or-set_other places n p (length order + 1) 0 apart) (above, omega (arith, (placed p above).0))
  | inr other ↦
      let now : get_or (set places n (length order + 1)) m 0 ≡ get_or places m 0 = get_or-set_other places n m (length order + 1) 0 other in
      let both = before (subst (λ x. 0 < x) now h) parent in
      let apart : p ≡ n → ⊥ = λ same. let zero_place : get_or places p 0 ≡ 0 = rw same unplaced in omega (arith, both.0, zero_place) in
      rw (now, get_or-set_other places n p (length order + 1) 0 apart) both
]

pub popped_found : (places steps order chain : List ℕ) (n m : ℕ) → n < length places
    → (0 < get_or steps m 0 → get_or places m 0 ≡ 0 → (get_or steps m 0 ≤ length (chain ++ n ∷ [])) × (get_or (chain ++ n ∷ []) (get_or steps m 0 - 1) 0 ≡ m))
    → 0 < get_or steps m 0 → get_or (set places n (length order + 1)) m 0 ≡ 0
    → (get_or steps m 0 ≤ length chain) × (get_or chain (get_or steps m 0 - 1) 0 ≡ m)
popped_found places steps order chain n m small found stepped unplaced = elim (cases_eq m n) [
  | inl e ↦ absurd (let now : get_or (set places n (length order + 1)) m 0 ≡ length order + 1 = rw e (get_or-set_same places n (length order + 1) 0 small) in omega (arith, now, unplaced))
  | inr apart ↦
      let before = found stepped (sym (get_or-set_other places n m (length order + 1) 0 apart) ∙ unplaced) in
      elim (cases_lt (get_or steps m 0 - 1) (length chain)) [
        | inl early ↦ (omega (arith, early, stepped), sym (early_read chain n (get_or steps m 0 - 1) early) ∙ before.1)
        | inr late ↦ absurd (apart (sym before.1 ∙ last_read chain n (get_or steps m 0 - 1) (omega (arith, late, before.0, length_more chain n))))
      ]
]

pub popped_stepped : (places steps order chain : List ℕ) (n j : ℕ) → get_or steps n 0 ≡ length chain + 1
    → (j < length (chain ++ n ∷ []) → (get_or steps (get_or (chain ++ n ∷ []) j 0) 0 ≡ j + 1) × (get_or places (get_or (chain ++ n ∷ []) j 0) 0 ≡ 0))
    → j < length chain
    → (get_or steps (get_or chain j 0) 0 ≡ j + 1) × (get_or (set places n (length order + 1)) (get_or chain j 0) 0 ≡ 0)
popped_stepped places steps order chain n j last stepped h =
    let before : (get_or steps (get_or chain j 0) 0 ≡ j + 1) × (get_or places (get_or chain j 0) 0 ≡ 0) = rw (early_read chain n j h) at (stepped (omega (arith, length_more chain n))) in
    let apart : get_or chain j 0 ≡ n → ⊥ = λ e. let same : get_or steps (get_or chain j 0) 0 ≡ length chain + 1 = rw e last in omega (arith, before.0, same, h) in
    (before.0, get_or-set_other places n (get_or chain j 0) (length order + 1) 0 apart ∙ before.1)

pub popped_linked : (parents : List (Option ℕ)) (chain : List ℕ) (n j : ℕ)
    → (j + 1 < length (chain ++ n ∷ []) → parent_of parents (get_or (chain ++ n ∷ []) j 0) ≡ Some (get_or (chain ++ n ∷ []) (j + 1) 0))
    → j + 1 < length chain
    → parent_of parents (get_or chain j 0) ≡ Some (get_or chain (j + 1) 0)
popped_linked parents chain n j linked h = rw (early_read chain n j (omega arith), early_read chain n (j + 1) h) at (linked (omega (arith, length_more chain n)))

pub popped : (parents : List (Option ℕ)) (places steps order chain : List ℕ) (n : ℕ) → AreSorted parents places steps order (chain ++ n ∷ []) → IsTopped parents places (chain ++ n ∷ []) → AreSorted parents (set places n (length order + 1)) steps (order ++ n ∷ []) chain
popped parents places steps order chain n s topped =
    let last : get_or (chain ++ n ∷ []) (length chain) 0 ≡ n = last_read chain n (length chain) refl in
    let here = rw last at (s.stepped (length chain) (omega (arith, length_more chain n))) in
    let stepped : get_or steps n 0 ≡ length chain + 1 = here.0 in
    let unplaced : get_or places n 0 ≡ 0 = here.1 in
    let small : n < length places = omega (arith, within steps n (omega (arith, stepped)), s.steps_len, s.places_len) in
    record {
      places_len = length-set places n (length order + 1) ∙ s.places_len;
      steps_len = s.steps_len;
      placed = λ m. popped_placed places order n m small (s.placed m);
      ordered = λ i. popped_ordered places order n i small unplaced (s.ordered i);
      parents_placed = λ m p. popped_parents parents places order n m p small unplaced s.placed (s.parents_placed m p) (λ h. topped (length chain) p (sym (length_more chain n)) (rw last h));
      found = λ m. popped_found places steps order chain n m small (s.found m);
      stepped = λ j. popped_stepped places steps order chain n j stepped (s.stepped j);
      linked = λ j. popped_linked parents chain n j (s.linked j);
    }

pub popped_topped : (parents : List (Option ℕ)) (places steps order chain : List ℕ) (n : ℕ) → AreSorted parents places steps order (chain ++ n ∷ []) → IsTopped parents (set places n (length order + 1)) chain
popped_topped parents places steps order chain n s j p e h =
    let last : get_or (chain ++ n ∷ []) (length chain) 0 ≡ n = last_read chain n (length chain) refl in
    let here = rw last at (s.stepped (length chain) (omega (arith, length_more chain n))) in
    let small : n < length places = omega (arith, within steps n (omega (arith, here.0)), s.steps_len, s.places_len) in
    let link : parent_of parents (get_or chain j 0) ≡ Some n = rw (early_read chain n j (omega arith), last_read chain n (j + 1) e) at (s.linked j (omega (arith, length_more chain n))) in
    let same : p ≡ n = let both : Some p ≡ Some n = sym h ∙ link in cc in
    rw (same, get_or-set_same places n (length order + 1) 0 small) (omega arith)

-- a place that was given stays given
pub popped_more : (places : List ℕ) (n k m : ℕ) → 0 < get_or places m 0 → 0 < get_or (set places n (k + 1)) m 0
popped_more places n k m h = elim (cases_eq m n) [
  | inl e ↦ rw (e, get_or-set_same places n (k + 1) 0 (within places n (subst (λ x. 0 < get_or places x 0) e h))) (omega arith)
  | inr apart ↦ rw (get_or-set_other places n m (k + 1) 0 apart) h
]
