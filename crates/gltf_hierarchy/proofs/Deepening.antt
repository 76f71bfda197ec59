-- One more node gets its depth.
use Rattle.std.proofs.Common.{◌≡◌, ℕ, suc, ◌<◌, ◌≤◌, ◌+◌, List, length, get_or, Option, Some, None, refl, sym, ◌∙◌, ap, subst, arith, inl, inr, replicate}
use Rattle.std.specs.Prelude.{slice_get}
use Rattle.std.proofs.Math.ListN.{set, length-set}
use Rattle.std.proofs.lemmas.List.{get_or-set_same, get_or-set_other, length-replicate}
use Rattle.std.proofs.lemmas.Option.{slice_get_within}
use Rattle.std.proofs.lemmas.Bool.{cases_lt}
use Rattle.gltf_hierarchy.specs.Order.{IsAbove, IsOrder}
use Rattle.gltf_hierarchy.specs.Depths.{IsDepth, AreDepthsBefore, AreDepthsOf, depth_under}

pub none_deep : (parents : List (Option ℕ)) (order depths : List ℕ) → depths ≡ replicate (length parents) 0 → AreDepthsBefore parents order depths 0
none_deep parents order depths e = record {
  len = ap length e ∙ length-replicate (length parents) 0;
  each = λ i n h. absurd (omega (arith, h));
  small = λ i n h. absurd (omega (arith, h));
}

-- the depth of a node whose parent has its depth
deep_here : (parents : List (Option ℕ)) (order depths : List ℕ) (k n : ℕ) (o : Option ℕ) → IsOrder parents order → AreDepthsBefore parents order depths k → slice_get order k ≡ Some n → slice_get parents n ≡ Some o → IsDepth parents n (depth_under o depths) × (depth_under o depths ≤ k)
deep_here parents order depths k n None ordered a at none = ((n, none, refl), omega arith)
deep_here parents order depths k n (Some p) ordered a at parent =
    let above = ordered.parents_first k n p at parent in
    let there = a.each above.0 p above.1 above.2 in
    let d : ℕ = get_or depths p 0 in
    let more : suc d ≡ d + 1 = omega arith in
    let up : IsAbove parents (suc d) n there.0 = (p, parent, there.2) in
    ((there.0, there.1, subst (λ m. IsAbove parents m n there.0) more up), omega (arith, a.small above.0 p above.1 above.2, above.1))

pub deeper : (parents : List (Option ℕ)) (order depths : List ℕ) (k n : ℕ) (o : Option ℕ) → IsOrder parents order → AreDepthsBefore parents order depths k → slice_get order k ≡ Some n → slice_get parents n ≡ Some o → AreDepthsBefore parents order (set depths n (depth_under o depths)) (k + 1)
deeper parents order depths k n o ordered a at parent =
    let d : ℕ = depth_under o depths in
    let new = deep_here parents order depths k n o ordered a at parent in
    let small : n < length depths = omega (arith, slice_get_within parents n o parent, a.len) in
    let apart : (i m : ℕ) → i < k → slice_get order i ≡ Some m → m ≡ n → ⊥ = λ i m h e same. let is : i ≡ k = ordered.once i k n (e ∙ ap Some same) at in omega (arith, is, h) in
    let same_node : (i m : ℕ) → i ≡ k → slice_get order i ≡ Some m → m ≡ n = λ i m is e. let both : Some m ≡ Some n = sym e ∙ ap (λ x. slice_get order x) is ∙ at in cc in
    record {
      len = length-set depths n d ∙ a.len;
      each = λ i m h e. elim (cases_lt i k) [
        | inl early ↦ rw (get_or-set_other depths n m d 0 (apart i m early e)) (a.each i m early e)
        | inr late ↦ rw (same_node i m (omega (arith, h, late)) e, get_or-set_same depths n d 0 small) new.0
      ];
      small = λ i m h e. elim (cases_lt i k) [
        | inl early ↦ rw (get_or-set_other depths n m d 0 (apart i m early e)) (a.small i m early e)
        | inr late ↦ rw (same_node i m (omega (arith, h, late)) e, get_or-set_same depths n d 0 small) (omega (arith, new.1, late))
      ];
    }

pub all_deep : (parents : List (Option ℕ)) (order depths : List ℕ) (k : ℕ) → IsOrder parents order → AreDepthsBefore parents order depths k → k ≡ length order → AreDepthsOf parents depths
all_deep parents order depths k ordered a e = record {
  len = a.len;
  each = λ n h. let there = ordered.each n h in a.each there.0 n (omega (arith, e, slice_get_within order there.0 n there.1)) there.1;
}
