-- One more node gets its share.
use Rattle.std.proofs.Common.{◌≡◌, ℕ, zero, suc, ◌<◌, ◌≤◌, ◌+◌, ◌*◌, List, length, get_or, Option, Some, None, refl, sym, ◌∙◌, ap, subst, arith, inl, inr, ◌⊎◌, replicate}
use Rattle.std.specs.Prelude.{slice_get, sum}
use Rattle.std.proofs.Math.ListN.{set, length-set}
use Rattle.std.proofs.lemmas.List.{get_or-set_same, get_or-set_other, length-replicate}
use Rattle.std.proofs.lemmas.List.Sums.{sum_by-set}
use Rattle.std.proofs.lemmas.List.Folds.{sum_by-replicate}
use Rattle.std.proofs.lemmas.Option.{slice_get_within}
use Rattle.std.proofs.lemmas.Bool.{cases_eq}
use Rattle.gltf_hierarchy.specs.Order.{IsOrder, AreNodes, IsParent}
use Rattle.gltf_hierarchy.proofs.Carrying.{both_within, part}
use Rattle.gltf_hierarchy.proofs.Above.{parent_read}
use Rattle.gltf_hierarchy.specs.Shares.{AreShares, AreHeld, above, above_of}

-- ---- the node above

-- the node above stands at an earlier place, or behind the last node
pub record IsAboveAt (parents : List (Option ℕ)) (order : List ℕ) (k n u : ℕ) : Type 0 where
  pub small : u < length parents + 1
  pub apart : u ≡ n → ⊥
  pub early : (i : ℕ) → slice_get order i ≡ Some u → i < k
  pub place : (u ≡ length parents) ⊎ ((i : ℕ) × (i < k) × (slice_get order i ≡ Some u))

above_case : (parents : List (Option ℕ)) (order : List ℕ) (k n : ℕ) (o : Option ℕ) → IsOrder parents order → AreNodes parents → slice_get order k ≡ Some n → get_or parents n None ≡ o → IsAboveAt parents order k n (above (length parents) o)
above_case parents order k n None ordered nodes at e = record {
  small = omega arith;
  apart = λ same. omega (arith, same, ordered.nodes k n at);
  early = λ i there. absurd (omega (arith, ordered.nodes i (length parents) there));
  place = inl refl;
}
above_case parents order k n (Some p) ordered nodes at e =
    let parent : IsParent parents n p = parent_read parents n p e in
    let up = ordered.parents_first k n p at parent in
    record {
      small = omega (arith, nodes n p parent);
      apart = λ same. let is : k ≡ up.0 = ordered.once k up.0 n at (up.2 ∙ ap Some same) in omega (arith, is, up.1);
      early = λ i there. let is : i ≡ up.0 = ordered.once i up.0 p there up.2 in omega (arith, is, up.1);
      place = inr (up.0, up.1, up.2);
    }

pub above_at : (parents : List (Option ℕ)) (order : List ℕ) (k n : ℕ) → IsOrder parents order → AreNodes parents → slice_get order k ≡ Some n → IsAboveAt parents order k n (above_of parents n)
above_at parents order k n ordered nodes at = above_case parents order k n (get_or parents n None) ordered nodes at refl

-- ---- what nodes hold

pub get_filled : (count x i : ℕ) → i < count → get_or (replicate count x) i 0 ≡ x
get_filled zero x i h = absurd (omega (arith, h))
get_filled (suc count) x zero h = refl
get_filled (suc count) x (suc i) h = get_filled count x i (omega (arith, h))

total_of_ones : (count : ℕ) → sum (replicate count 1) ≡ count
total_of_ones count = let e : sum (replicate count 1) ≡ count * 1 = sum_by-replicate (λ x. x) count 1 in omega (arith, e)

pub first_held : (parents : List (Option ℕ)) (order sizes : List ℕ) (bound : ℕ) → IsOrder parents order → sizes ≡ replicate (length parents + 1) 1 → AreHeld parents order sizes bound
first_held parents order sizes bound ordered e = record {
  held = replicate (length parents + 1) 1;
  len = length-replicate (length parents + 1) 1;
  total = total_of_ones (length parents + 1);
  top = ap (λ xs. get_or xs (length parents) 0) (sym e);
  before = λ i n h at. ap (λ xs. get_or xs n 0) (sym e);
}

pub first_shares : (parents : List (Option ℕ)) (order sizes offsets : List ℕ) (bound : ℕ) → sizes ≡ replicate (length parents + 1) 1 → offsets ≡ replicate (length parents + 1) 0 → length order ≤ bound → AreShares parents order sizes offsets bound
first_shares parents order sizes offsets bound e f h = record {
  sizes_len = ap length e ∙ length-replicate (length parents + 1) 1;
  offsets_len = ap length f ∙ length-replicate (length parents + 1) 0;
  some = λ n small. let is : get_or sizes n 0 ≡ 1 = ap (λ xs. get_or xs n 0) e ∙ get_filled (length parents + 1) 1 n small in omega (arith, is);
  behind = λ i n late at. absurd (omega (arith, slice_get_within order i n at, late, h));
  within = λ i n late at. absurd (omega (arith, slice_get_within order i n at, late, h));
  apart = λ i j m n late later at. absurd (omega (arith, slice_get_within order i m at, late, h));
}

carried_total : (held : List ℕ) (n u : ℕ) → n < length held → u < length held → (u ≡ n → ⊥) → sum (set (set held u (get_or held u 0 + get_or held n 0)) n 0) ≡ sum held
carried_total held n u small above apart =
    let more : ℕ = get_or held u 0 + get_or held n 0 in
    let now : List ℕ = set held u more in
    let first : sum now + get_or held u 0 ≡ sum held + more = sum_by-set (λ x. x) held u more 0 above in
    let second : sum (set now n 0) + get_or now n 0 ≡ sum now + 0 = sum_by-set (λ x. x) now n 0 0 (omega (arith, small, length-set held u more)) in
    let same : get_or now n 0 ≡ get_or held n 0 = get_or-set_other held u n more 0 (λ e. apart (sym e)) in
    omega (arith, first, second, same)

-- the sizes of a node and of the one above are at most that of all
pub fits : (parents : List (Option ℕ)) (order sizes : List ℕ) (k n : ℕ) → IsOrder parents order → AreNodes parents → AreHeld parents order sizes (k + 1) → slice_get order k ≡ Some n → get_or sizes (above_of parents n) 0 + get_or sizes n 0 ≤ length parents + 1
fits parents order sizes k n ordered nodes h at =
    let u = above_at parents order k n ordered nodes at in
    let here : get_or h.held n 0 ≡ get_or sizes n 0 = h.before k n (omega arith) at in
    let there : get_or h.held (above_of parents n) 0 ≡ get_or sizes (above_of parents n) 0 = elim u.place [
      | inl top ↦ subst (λ x. get_or h.held x 0 ≡ get_or sizes x 0) (sym top) h.top
      | inr (i, early, up) ↦ h.before i (above_of parents n) (omega (arith, early)) up
    ] in
    omega (arith, both_within h.held n (above_of parents n) u.apart, here, there, h.total)

pub more_held : (parents : List (Option ℕ)) (order sizes : List ℕ) (k n : ℕ) → IsOrder parents order → AreNodes parents → length sizes ≡ length parents + 1 → AreHeld parents order sizes (k + 1) → slice_get order k ≡ Some n → AreHeld parents order (set sizes (above_of parents n) (get_or sizes (above_of parents n) 0 + get_or sizes n 0)) k
more_held parents order sizes k n ordered nodes len h at =
    let u : ℕ = above_of parents n in
    let up = above_at parents order k n ordered nodes at in
    let small : n < length parents = ordered.nodes k n at in
    let more : ℕ = get_or sizes u 0 + get_or sizes n 0 in
    let held_more : ℕ = get_or h.held u 0 + get_or h.held n 0 in
    let here : get_or h.held n 0 ≡ get_or sizes n 0 = h.before k n (omega arith) at in
    let there : get_or h.held u 0 ≡ get_or sizes u 0 = elim up.place [
      | inl top ↦ subst (λ x. get_or h.held x 0 ≡ get_or sizes x 0) (sym top) h.top
      | inr (i, early, there_at) ↦ h.before i u (omega (arith, early)) there_at
    ] in
    let u_small : u < length sizes = omega (arith, up.small, len) in
    let u_held : u < length h.held = omega (arith, up.small, h.len) in
    let read : (m : ℕ) → (m ≡ n → ⊥) → get_or h.held m 0 ≡ get_or sizes m 0 → get_or (set (set h.held u held_more) n 0) m 0 ≡ get_or (set sizes u more) m 0 = λ m apart e.
    get_or-set_other (set h.held u held_more) n m 0 0 apart ∙ elim (cases_eq m u) [
      | inl same ↦
          let left : get_or (set h.held u held_more) m 0 ≡ held_more = rw same (get_or-set_same h.held u held_more 0 u_held) in
          let right : get_or (set sizes u more) m 0 ≡ more = rw same (get_or-set_same sizes u more 0 u_small) in
          omega (arith, left, right, here, there)
      | inr other ↦ get_or-set_other h.held u m held_more 0 other ∙ e ∙ sym (get_or-set_other sizes u m more 0 other)
    ] in
    record {
      held = set (set h.held u held_more) n 0;
      len = length-set (set h.held u held_more) n 0 ∙ length-set h.held u held_more ∙ h.len;
      total = carried_total h.held n u (omega (arith, small, h.len)) u_held up.apart ∙ h.total;
      top = read (length parents) (λ e. omega (arith, e, small)) h.top;
      before = λ i m early e. read m (λ same. let is : i ≡ k = ordered.once i k n (e ∙ ap Some same) at in omega (arith, is, early)) (h.before i m (omega (arith, early)) e);
    }

-- the size above all roots is at most that of all
pub top_small : (parents : List (Option ℕ)) (order sizes : List ℕ) (bound : ℕ) → AreHeld parents order sizes bound → get_or sizes (length parents) 0 ≤ length parents + 1
top_small parents order sizes bound h = omega (arith, part h.held (length parents), h.top, h.total)

-- ---- shares

pub more_shares : (parents : List (Option ℕ)) (order sizes offsets : List ℕ) (k n : ℕ) → IsOrder parents order → AreNodes parents → AreShares parents order sizes offsets (k + 1) → slice_get order k ≡ Some n → AreShares parents order (set sizes (above_of parents n) (get_or sizes (above_of parents n) 0 + get_or sizes n 0)) (set offsets n (get_or sizes (above_of parents n) 0)) k
more_shares parents order sizes offsets k n ordered nodes a at =
    let u : ℕ = above_of parents n in
    let up = above_at parents order k n ordered nodes at in
    let small : n < length parents = ordered.nodes k n at in
    let old : ℕ = get_or sizes u 0 in
    let more : ℕ = old + get_or sizes n 0 in
    let u_small : u < length sizes = omega (arith, up.small, a.sizes_len) in
    let above_now : get_or (set sizes u more) u 0 ≡ more = get_or-set_same sizes u more 0 u_small in
    let own : get_or (set offsets n old) n 0 ≡ old = get_or-set_same offsets n old 0 (omega (arith, small, a.offsets_len)) in
    let grown : (m : ℕ) → get_or sizes m 0 ≤ get_or (set sizes u more) m 0 = λ m. elim (cases_eq m u) [
      | inl same ↦ let now : get_or (set sizes u more) m 0 ≡ more = rw same above_now in let was : get_or sizes m 0 ≡ old = ap (λ x. get_or sizes x 0) same in omega (arith, now, was)
      | inr other ↦ let now : get_or (set sizes u more) m 0 ≡ get_or sizes m 0 = get_or-set_other sizes u m more 0 other in omega (arith, now)
    ] in
    let kept : (i m : ℕ) → k ≤ i → slice_get order i ≡ Some m → get_or (set sizes u more) m 0 ≡ get_or sizes m 0 = λ i m late e. get_or-set_other sizes u m more 0 (λ same. let early : i < k = up.early i (e ∙ ap Some same) in omega (arith, early, late)) in
    let later : (i m : ℕ) → k ≤ i → slice_get order i ≡ Some m → (m ≡ n → ⊥) → k + 1 ≤ i = λ i m late e apart. elim (cases_eq i k) [
      | inl same ↦ absurd (apart (let both : Some m ≡ Some n = sym e ∙ ap (λ x. slice_get order x) same ∙ at in cc))
      | inr other ↦ omega (arith, late, other)
    ] in
    let other_offset : (m : ℕ) → (m ≡ n → ⊥) → get_or (set offsets n old) m 0 ≡ get_or offsets m 0 = λ m apart. get_or-set_other offsets n m old 0 apart in
    -- who has the same node above ends before the new share
    let before : (i m : ℕ) → k ≤ i → slice_get order i ≡ Some m → (m ≡ n → ⊥) → above_of parents m ≡ u → get_or (set offsets n old) m 0 + get_or (set sizes u more) m 0 ≤ get_or (set offsets n old) n 0 = λ i m late e apart same.
    let was : get_or offsets m 0 + get_or sizes m 0 ≤ get_or sizes (above_of parents m) 0 = a.within i m (later i m late e apart) e in
    let there : get_or sizes (above_of parents m) 0 ≡ old = ap (λ x. get_or sizes x 0) same in
    omega (arith, was, there, own, other_offset m apart, kept i m late e) in
    record {
      sizes_len = length-set sizes u more ∙ a.sizes_len;
      offsets_len = length-set offsets n old ∙ a.offsets_len;
      some = λ m h. omega (arith, a.some m h, grown m);
      behind = λ i m late e. elim (cases_eq m n) [
        | inl same ↦ let now : get_or (set offsets n old) m 0 ≡ old = rw same own in omega (arith, now, a.some u up.small)
        | inr apart ↦ omega (arith, other_offset m apart, a.behind i m (later i m late e apart) e)
      ];
      within = λ i m late e. elim (cases_eq m n) [
        | inl same ↦
            let offset_now : get_or (set offsets n old) m 0 ≡ old = rw same own in
            let size_now : get_or (set sizes u more) m 0 ≡ get_or sizes n 0 = kept i m late e ∙ ap (λ x. get_or sizes x 0) same in
            let top_now : get_or (set sizes u more) (above_of parents m) 0 ≡ more = subst (λ x. get_or (set sizes u more) (above_of parents x) 0 ≡ more) (sym same) above_now in
            omega (arith, offset_now, size_now, top_now)
        | inr apart ↦ omega (arith, other_offset m apart, kept i m late e, a.within i m (later i m late e apart) e, grown (above_of parents m))
      ];
      apart = λ i j m o late_i late_j e f differ same. elim (cases_eq m n) [
        | inl m_is ↦ inr (
            let o_apart : o ≡ n → ⊥ = λ x. differ (m_is ∙ sym x) in
            let o_above : above_of parents o ≡ u = sym same ∙ ap (λ x. above_of parents x) m_is in
            rw m_is (before j o late_j f o_apart o_above)
            )
        | inr m_apart ↦ elim (cases_eq o n) [
          | inl o_is ↦ inl (
              let m_above : above_of parents m ≡ u = same ∙ ap (λ x. above_of parents x) o_is in
              rw o_is (before i m late_i e m_apart m_above)
              )
          | inr o_apart ↦
              rw (other_offset m m_apart, other_offset o o_apart, kept i m late_i e, kept j o late_j f) (a.apart i j m o (later i m late_i e m_apart) (later j o late_j f o_apart) e f differ same)
        ]
      ];
    }
