-- One more node gets its number.
use Rattle.std.proofs.Common.{◌≡◌, ℕ, ◌<◌, ◌≤◌, ◌+◌, List, length, get_or, Option, Some, sym, ◌∙◌, ap, subst, arith, inl, inr, replicate}
use Rattle.std.specs.Prelude.{slice_get}
use Rattle.std.proofs.Math.ListN.{set, length-set}
use Rattle.std.proofs.lemmas.List.{get_or-set_same, get_or-set_other, length-replicate}
use Rattle.std.proofs.lemmas.Option.{slice_get_within}
use Rattle.std.proofs.lemmas.Bool.{cases_lt}
use Rattle.gltf_hierarchy.specs.Order.{IsOrder, AreNodes}
use Rattle.gltf_hierarchy.specs.Shares.{AreShares, AreFirstsBefore, AreFirsts, AreRanges, above_of}
use Rattle.gltf_hierarchy.proofs.Sharing.{above_at, get_filled}

pub no_firsts : (parents : List (Option ℕ)) (order sizes offsets firsts : List ℕ) → firsts ≡ replicate (length parents + 1) 0 → AreFirstsBefore parents order sizes offsets firsts 0
no_firsts parents order sizes offsets firsts e = record {
  len = ap length e ∙ length-replicate (length parents + 1) 0;
  top = ap (λ xs. get_or xs (length parents) 0) e ∙ get_filled (length parents + 1) 0 (length parents) (omega arith);
  each = λ i n h. absurd (omega (arith, h));
  small = λ i n h. absurd (omega (arith, h));
}

-- the range above ends before that of all
above_within : (parents : List (Option ℕ)) (order sizes offsets firsts : List ℕ) (k n : ℕ) → IsOrder parents order → AreNodes parents → AreFirstsBefore parents order sizes offsets firsts k → slice_get order k ≡ Some n → get_or firsts (above_of parents n) 0 + get_or sizes (above_of parents n) 0 ≤ get_or sizes (length parents) 0
above_within parents order sizes offsets firsts k n ordered nodes a at = elim (above_at parents order k n ordered nodes at).place [
  | inl top ↦ subst (λ x. get_or firsts x 0 + get_or sizes x 0 ≤ get_or sizes (length parents) 0) (sym top) (omega (arith, a.top))
  | inr (i, early, up) ↦ a.small i (above_of parents n) early up
]

pub number_fits : (parents : List (Option ℕ)) (order sizes offsets firsts : List ℕ) (k n : ℕ) → IsOrder parents order → AreNodes parents → AreShares parents order sizes offsets 0 → AreFirstsBefore parents order sizes offsets firsts k → slice_get order k ≡ Some n → get_or firsts (above_of parents n) 0 + get_or offsets n 0 + get_or sizes n 0 ≤ get_or sizes (length parents) 0
number_fits parents order sizes offsets firsts k n ordered nodes s a at =
    omega (arith, above_within parents order sizes offsets firsts k n ordered nodes a at, s.within k n (omega arith) at)

pub more_firsts : (parents : List (Option ℕ)) (order sizes offsets firsts : List ℕ) (k n : ℕ) → IsOrder parents order → AreNodes parents → AreShares parents order sizes offsets 0 → AreFirstsBefore parents order sizes offsets firsts k → slice_get order k ≡ Some n → AreFirstsBefore parents order sizes offsets (set firsts n (get_or firsts (above_of parents n) 0 + get_or offsets n 0)) (k + 1)
more_firsts parents order sizes offsets firsts k n ordered nodes s a at =
    let x : ℕ = get_or firsts (above_of parents n) 0 + get_or offsets n 0 in
    let up = above_at parents order k n ordered nodes at in
    let small : n < length parents = ordered.nodes k n at in
    let own : get_or (set firsts n x) n 0 ≡ x = get_or-set_same firsts n x 0 (omega (arith, small, a.len)) in
    let fits = number_fits parents order sizes offsets firsts k n ordered nodes s a at in
    let above_kept : get_or (set firsts n x) (above_of parents n) 0 ≡ get_or firsts (above_of parents n) 0 = get_or-set_other firsts n (above_of parents n) x 0 up.apart in
    let apart : (i m : ℕ) → i < k → slice_get order i ≡ Some m → m ≡ n → ⊥ = λ i m early e same. let is : i ≡ k = ordered.once i k n (e ∙ ap Some same) at in omega (arith, is, early) in
    let here : (i m : ℕ) → i < k + 1 → (i < k → ⊥) → slice_get order i ≡ Some m → m ≡ n = λ i m h late e. let is : i ≡ k = omega (arith, h, late) in let both : Some m ≡ Some n = sym e ∙ ap (λ y. slice_get order y) is ∙ at in cc in
    let not_above : (i m : ℕ) → i < k → slice_get order i ≡ Some m → above_of parents m ≡ n → ⊥ = λ i m early e same. elim (above_at parents order i m ordered nodes e).place [
      | inl top ↦ omega (arith, top, same, small)
      | inr (j, first, there) ↦ let is : j ≡ k = ordered.once j k n (there ∙ ap Some same) at in omega (arith, is, first, early)
    ] in
    record {
      len = length-set firsts n x ∙ a.len;
      top = get_or-set_other firsts n (length parents) x 0 (λ e. omega (arith, e, small)) ∙ a.top;
      each = λ i m h e. elim (cases_lt i k) [
        | inl early ↦ rw (get_or-set_other firsts n m x 0 (apart i m early e), get_or-set_other firsts n (above_of parents m) x 0 (not_above i m early e)) (a.each i m early e)
        | inr late ↦ subst (λ y. get_or (set firsts n x) y 0 ≡ get_or (set firsts n x) (above_of parents y) 0 + get_or offsets y 0) (sym (here i m h (λ early. omega (arith, early, late)) e)) (omega (arith, own, above_kept))
      ];
      small = λ i m h e. elim (cases_lt i k) [
        | inl early ↦ rw (get_or-set_other firsts n m x 0 (apart i m early e)) (a.small i m early e)
        | inr late ↦ subst (λ y. get_or (set firsts n x) y 0 + get_or sizes y 0 ≤ get_or sizes (length parents) 0) (sym (here i m h (λ early. omega (arith, early, late)) e)) (omega (arith, own, fits))
      ];
    }

pub all_firsts : (parents : List (Option ℕ)) (order sizes offsets firsts : List ℕ) (k : ℕ) → IsOrder parents order → AreFirstsBefore parents order sizes offsets firsts k → k ≡ length order → AreFirsts parents offsets firsts
all_firsts parents order sizes offsets firsts k ordered a e n h =
    let there = ordered.each n h in
    a.each there.0 n (omega (arith, e, slice_get_within order there.0 n there.1)) there.1

pub ranges : (parents : List (Option ℕ)) (order sizes offsets firsts : List ℕ) → IsOrder parents order → AreShares parents order sizes offsets 0 → AreFirsts parents offsets firsts → AreRanges parents firsts sizes
ranges parents order sizes offsets firsts ordered s f = record {
  some = λ n h. s.some n (omega (arith, h));
  later = λ n h. let there = ordered.each n h in omega (arith, f n h, s.behind there.0 n (omega arith) there.1);
  within = λ n h. let there = ordered.each n h in omega (arith, f n h, s.within there.0 n (omega arith) there.1);
  apart = λ m n h1 h2 differ same.
      let i = ordered.each m h1 in
      let j = ordered.each n h2 in
      let base : get_or firsts (above_of parents m) 0 ≡ get_or firsts (above_of parents n) 0 = ap (λ x. get_or firsts x 0) same in
      elim (s.apart i.0 j.0 m n (omega arith) (omega arith) i.1 j.1 differ same) [
        | inl before ↦ inl (omega (arith, before, base, f m h1, f n h2))
        | inr after ↦ inr (omega (arith, after, base, f m h1, f n h2))
      ];
}
