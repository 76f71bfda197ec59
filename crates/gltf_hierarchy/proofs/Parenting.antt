-- The children of one more node get their parent.
use Rattle.std.proofs.Common.{◌≡◌, ℕ, ◌<◌, ◌+◌, List, length, Option, Some, None, sym, ◌∙◌, ap, subst, arith, inl, inr, replicate}
use Rattle.std.specs.Prelude.{slice_get}
use Rattle.std.proofs.lemmas.Option.{slice_get_within, slice_get-get_or}
use Rattle.std.proofs.lemmas.List.{get_or-replicate, length-replicate}
use Rattle.std.proofs.lemmas.Bool.{cases_lt}
use Rattle.gltf_hierarchy.specs.declared.fault.HierarchyFault.{HierarchyFault}
use Rattle.gltf_hierarchy.specs.declared.fault.HierarchyFault.TheVariants.{TooManyNodes, NoSuchChild, TwoParents, Cycle, Memory}
use Rattle.gltf_hierarchy.specs.Nodes.{children_of, IsChildAt}
use Rattle.gltf_hierarchy.specs.Parents.{AreParentsBelow}
use Rattle.gltf_hierarchy.specs.Adopted.{IsAdopted, IsRefused, IsParentFault}

pub no_parents : (nodes : List (List ℕ)) (parents : List (Option ℕ)) → parents ≡ replicate (length nodes) None → AreParentsBelow nodes parents 0
no_parents nodes parents e = record {
  len = ap length e ∙ length-replicate (length nodes) None;
  each = λ p i c h. absurd (omega (arith, h));
  only = λ c p h. absurd (
      let there : slice_get (replicate (length nodes) None) c ≡ Some (Some p) = subst (λ x. slice_get x c ≡ Some (Some p)) e h in
      let small : c < length nodes = omega (arith, slice_get_within (replicate (length nodes) None) c (Some p) there, length-replicate {A = Option ℕ} (length nodes) None) in
      let none : slice_get (replicate (length nodes) None) c ≡ Some None = slice_get-get_or (replicate {A = Option ℕ} (length nodes) None) c None (omega (arith, small, length-replicate {A = Option ℕ} (length nodes) None)) ∙ ap Some (get_or-replicate (length nodes) c None None small) in
      let both : Some None ≡ Some (Some p) = sym none ∙ there in cc);
  once = λ p i j c h. absurd (omega (arith, h));
}

pub more_parents : (nodes : List (List ℕ)) (parents new : List (Option ℕ)) (n : ℕ) → AreParentsBelow nodes parents n → IsAdopted parents new n (children_of nodes n) → AreParentsBelow nodes new (n + 1)
more_parents nodes parents new n s a =
    let children : List ℕ = children_of nodes n in
    record {
      len = a.len ∙ s.len;
      each = λ p i c h e. elim (cases_lt p n) [
        | inl early ↦ a.kept c p (s.each p i c early e)
        | inr late ↦
            let is : p ≡ n = omega (arith, h, late) in
            let at : slice_get children i ≡ Some c = subst (λ x. IsChildAt nodes x i c) is e in
            a.each i c (slice_get_within children i c at) at ∙ ap (λ x. Some (Some x)) (sym is)
      ];
      only = λ c p e. elim (a.only c p e) [
        | inl before ↦ let o = s.only c p before in (omega (arith, o.0), o.1)
        | inr (is, (i, h, at)) ↦ (omega (arith, is), (i, subst (λ x. IsChildAt nodes x i c) (sym is) at))
      ];
      once = λ p i j c h ei ej. elim (cases_lt p n) [
        | inl early ↦ s.once p i j c early ei ej
        | inr late ↦
            let is : p ≡ n = omega (arith, h, late) in
            let at_i : slice_get children i ≡ Some c = subst (λ x. IsChildAt nodes x i c) is ei in
            let at_j : slice_get children j ≡ Some c = subst (λ x. IsChildAt nodes x j c) is ej in
            a.once i j c (slice_get_within children i c at_i) (slice_get_within children j c at_j) at_i at_j
      ];
    }

pub refused_is_fault : (nodes : List (List ℕ)) (parents : List (Option ℕ)) (n : ℕ) (e : HierarchyFault) → AreParentsBelow nodes parents n → IsRefused parents n (children_of nodes n) e → IsParentFault nodes e
refused_is_fault nodes parents n (NoSuchChild p c) s (is, h, (i, at)) = (omega (arith, h, s.len), (i, subst (λ x. IsChildAt nodes x i c) (sym is) at))
refused_is_fault nodes parents n (TwoParents c p q) s (is, (j, at, inl before)) = let o = s.only c p before in (o.1.0, j, o.1.1, subst (λ x. IsChildAt nodes x j c) (sym is) at, inl (omega (arith, o.0, is)))
refused_is_fault nodes parents n (TwoParents c p q) s (is, (j, at, inr (here, (i, h, first)))) = (i, j, subst (λ x. IsChildAt nodes x i c) (sym here) first, subst (λ x. IsChildAt nodes x j c) (sym is) at, inr (here ∙ sym is, h))
refused_is_fault nodes parents n TooManyNodes s h = absurd h
refused_is_fault nodes parents n (Cycle m) s h = absurd h
refused_is_fault nodes parents n (Memory e) s h = absurd h
