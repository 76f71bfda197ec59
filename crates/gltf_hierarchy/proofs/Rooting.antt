-- One more node gets its root.
use Rattle.std.proofs.Common.{◌≡◌, ℕ, zero, suc, ◌<◌, ◌+◌, List, length, get_or, Option, Some, None, refl, sym, ◌∙◌, ap, subst, arith, inl, inr, replicate}
use Rattle.std.specs.Prelude.{slice_get}
use Rattle.std.proofs.Math.ListN.{set, length-set}
use Rattle.std.proofs.lemmas.List.{get_or-set_same, get_or-set_other, length-replicate}
use Rattle.std.proofs.lemmas.Option.{slice_get_within}
use Rattle.std.proofs.lemmas.Bool.{cases_lt}
use Rattle.gltf_hierarchy.specs.Order.{IsOrder, IsAbove}
use Rattle.gltf_hierarchy.specs.Roots.{IsTreeRoot, AreRootsBefore, AreRoots, root_under}

pub no_roots : (parents : List (Option ℕ)) (order roots : List ℕ) → roots ≡ replicate (length parents) 0 → AreRootsBefore parents order roots 0
no_roots parents order roots e = record {
  len = ap length e ∙ length-replicate (length parents) 0;
  each = λ i n h. absurd (omega (arith, h));
}

root_here : (parents : List (Option ℕ)) (order roots : List ℕ) (k n : ℕ) (o : Option ℕ) → IsOrder parents order → AreRootsBefore parents order roots k → slice_get order k ≡ Some n → slice_get parents n ≡ Some o → IsTreeRoot parents n (root_under n o roots)
root_here parents order roots k n None ordered a at none = (zero, none, refl)
root_here parents order roots k n (Some p) ordered a at parent =
    let up = ordered.parents_first k n p at parent in
    let there = a.each up.0 p up.1 up.2 in
    (suc there.0, there.1, (p, parent, there.2))

pub more_roots : (parents : List (Option ℕ)) (order roots : List ℕ) (k n : ℕ) (o : Option ℕ) → IsOrder parents order → AreRootsBefore parents order roots k → slice_get order k ≡ Some n → slice_get parents n ≡ Some o → AreRootsBefore parents order (set roots n (root_under n o roots)) (k + 1)
more_roots parents order roots k n o ordered a at parent =
    let x : ℕ = root_under n o roots in
    let new = root_here parents order roots k n o ordered a at parent in
    let small : n < length roots = omega (arith, slice_get_within parents n o parent, a.len) in
    let apart : (i m : ℕ) → i < k → slice_get order i ≡ Some m → m ≡ n → ⊥ = λ i m h e same. let is : i ≡ k = ordered.once i k n (e ∙ ap Some same) at in omega (arith, is, h) in
    let same_node : (i m : ℕ) → i ≡ k → slice_get order i ≡ Some m → m ≡ n = λ i m is e. let both : Some m ≡ Some n = sym e ∙ ap (λ y. slice_get order y) is ∙ at in cc in
    record {
      len = length-set roots n x ∙ a.len;
      each = λ i m h e. elim (cases_lt i k) [
        | inl early ↦ subst (λ y. IsTreeRoot parents m y) (sym (get_or-set_other roots n m x 0 (apart i m early e))) (a.each i m early e)
        | inr late ↦
            let is : m ≡ n = same_node i m (omega (arith, h, late)) e in
            let now : IsTreeRoot parents n (get_or (set roots n x) n 0) = subst (λ y. IsTreeRoot parents n y) (sym (get_or-set_same roots n x 0 small)) new in
            subst (λ y. IsTreeRoot parents y (get_or (set roots n x) y 0)) (sym is) now
      ];
    }

pub all_roots : (parents : List (Option ℕ)) (order roots : List ℕ) (k : ℕ) → IsOrder parents order → AreRootsBefore parents order roots k → k ≡ length order → AreRoots parents roots
all_roots parents order roots k ordered a e = record {
  len = a.len;
  each = λ n h. let there = ordered.each n h in a.each there.0 n (omega (arith, e, slice_get_within order there.0 n there.1)) there.1;
}

-- a node above one that is above another
trans : (parents : List (Option ℕ)) (d e n a r : ℕ) → IsAbove parents d n a → IsAbove parents e a r → (k : ℕ) × IsAbove parents k n r
trans parents zero e n a r same up = (e, subst (λ x. IsAbove parents e x r) (sym same) up)
trans parents (suc d) e n a r (p, parent, rest) up = let more = trans parents d e p a r rest up in (suc more.0, (p, parent, more.1))

-- no node has two roots
one : (parents : List (Option ℕ)) (d e n q r : ℕ) → slice_get parents q ≡ Some None → slice_get parents r ≡ Some None → IsAbove parents d n q → IsAbove parents e n r → q ≡ r
one parents zero zero n q r q_root r_root same is = sym same ∙ is
one parents zero (suc e) n q r q_root r_root same (p, parent, rest) = absurd (let clash : Some None ≡ Some (Some p) = sym q_root ∙ ap (λ x. slice_get parents x) (sym same) ∙ parent in cc)
one parents (suc d) zero n q r q_root r_root (p, parent, rest) same = absurd (let clash : Some None ≡ Some (Some p) = sym r_root ∙ ap (λ x. slice_get parents x) (sym same) ∙ parent in cc)
one parents (suc d) (suc e) n q r q_root r_root (p, parent, rest) (o, other, more) =
    let both : Some (Some p) ≡ Some (Some o) = sym parent ∙ other in
    let is : p ≡ o = cc in
    one parents d e p q r q_root r_root rest (subst (λ x. IsAbove parents e x r) (sym is) more)

-- a node and one above it have one root
pub same_root : (parents : List (Option ℕ)) (roots : List ℕ) (d n a : ℕ) → AreRoots parents roots → n < length parents → a < length parents → IsAbove parents d n a → get_or roots a 0 ≡ get_or roots n 0
same_root parents roots d n a t small above up =
    let here = t.each n small in
    let there = t.each a above in
    let whole = trans parents d there.0 n a (get_or roots a 0) up there.2 in
    one parents whole.0 here.0 n (get_or roots a 0) (get_or roots n 0) there.1 here.1 whole.1 here.2
