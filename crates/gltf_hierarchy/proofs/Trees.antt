-- From an order of parents to trees.
use Rattle.std.proofs.Common.{◌≡◌, ℕ, zero, suc, ◌<◌, ◌≤◌, ◌+◌, List, [], length, Option, Some, None, refl, sym, ◌∙◌, ap, subst, arith, inl, inr}
use Rattle.std.specs.Prelude.{slice_get, get_or, ◌^◌}
use Rattle.std.proofs.lemmas.Option.{slice_get_within, get_or_from_slice_get}
use Rattle.std.proofs.lemmas.Bool.{cases_lt}
use Rattle.std.proofs.lemmas.Grind.{common_steps}
use Rattle.gltf_hierarchy.specs.Order.{IsOrder, AreNodes, IsParent, IsAbove, IsAtFault}
use Rattle.gltf_hierarchy.specs.Nodes.{IsChildAt, IsBelow}
use Rattle.gltf_hierarchy.specs.Parents.{AreParents}
use Rattle.gltf_hierarchy.specs.Adopted.{IsParentFault}
use Rattle.gltf_hierarchy.specs.Forest.{IsForest, IsParentsFirst, IsHierarchyFault, IsOutOfMemory, AreDepths}
use Rattle.gltf_hierarchy.specs.declared.fault.HierarchyFault.{HierarchyFault}
use Rattle.gltf_hierarchy.specs.declared.fault.HierarchyFault.TheVariants.{TooManyNodes, NoSuchChild, TwoParents, Cycle, Memory}
use Rattle.gltf_hierarchy.specs.Depths.{IsDepth, AreDepthsOf}

-- what has a child is a node
pub has_child : (nodes : List (List ℕ)) (p i c : ℕ) → IsChildAt nodes p i c → p < length nodes
has_child nodes p i c h = elim (cases_lt p (length nodes)) [
  | inl small ↦ small
  | inr past ↦ absurd (let empty : get_or nodes p [] ≡ [] = grind (arith, common_steps) in let none : None ≡ Some c = subst (λ (xs : List ℕ). slice_get xs i ≡ Some c) empty h in cc)
]

pub parent_of_child : (nodes : List (List ℕ)) (parents : List (Option ℕ)) (p i c : ℕ) → AreParents nodes parents → IsChildAt nodes p i c → IsParent parents c p
parent_of_child nodes parents p i c s h = s.each p i c (has_child nodes p i c h) h

pub are_nodes : (nodes : List (List ℕ)) (parents : List (Option ℕ)) → AreParents nodes parents → AreNodes parents
are_nodes nodes parents s n p h = omega (arith, (s.only n p h).0, s.len)

pub parents_first : (nodes : List (List ℕ)) (parents : List (Option ℕ)) (order : List ℕ) → AreParents nodes parents → IsOrder parents order → IsParentsFirst nodes order
parents_first nodes parents order s o = record {
  nodes_alone = λ i n h. omega (arith, o.nodes i n h, s.len);
  each = λ n h. o.each n (omega (arith, h, s.len));
  once = o.once;
  parents_first = λ i p n k h child. o.parents_first i n p h (parent_of_child nodes parents p k n s child);
}

pub top_is_node : (nodes : List (List ℕ)) (k n b : ℕ) → IsBelow nodes k n b → b < length nodes → n < length nodes
top_is_node nodes zero n b e h = rw e h
top_is_node nodes (suc k) n b (c, (i, child), rest) h = has_child nodes n i c child

-- who is below stands later
pub later : (nodes : List (List ℕ)) (order : List ℕ) → IsParentsFirst nodes order → (k n b i : ℕ) → IsBelow nodes k n b → slice_get order i ≡ Some n → b < length nodes → (j : ℕ) × (i + k ≤ j) × (slice_get order j ≡ Some b)
later nodes order o zero n b i e at hb = (i, omega arith, at ∙ ap Some e)
later nodes order o (suc k) n b i (c, (place, child), rest) at hb =
    let there = o.each c (top_is_node nodes k c b rest hb) in
    let up = o.parents_first there.0 n c place there.1 child in
    let is : i ≡ up.0 = o.once i up.0 n at up.2 in
    let down = later nodes order o k c b there.0 rest there.1 hb in
    (down.0, omega (arith, down.1, is, up.1), down.2)

pub is_forest : (nodes : List (List ℕ)) (parents : List (Option ℕ)) (order : List ℕ) → AreParents nodes parents → IsOrder parents order → IsForest nodes
is_forest nodes parents order s o = record {
  exist = λ p i c h. omega (arith, slice_get_within parents c (Some p) (parent_of_child nodes parents p i c s h), s.len);
  one_parent = λ p q i j c hp hq.
      let is : p ≡ q = let both : Some (Some p) ≡ Some (Some q) = sym (parent_of_child nodes parents p i c s hp) ∙ parent_of_child nodes parents q j c s hq in cc in
      (is, s.once p i j c (has_child nodes p i c hp) hp (subst (λ x. IsChildAt nodes x j c) (sym is) hq));
  no_cycle = λ k n below.
      let first = parents_first nodes parents order s o in
      let small : n < length nodes = has_child nodes n (below.1.0) (below.0) (below.1.1) in
      let there = first.each n small in
      let down = later nodes order first (suc k) n n there.0 below there.1 small in
      let is : there.0 ≡ down.0 = first.once there.0 down.0 n there.1 down.2 in
      omega (arith, is, down.1);
}

-- one more step down
pub below_more : (nodes : List (List ℕ)) (k a p c i : ℕ) → IsBelow nodes k a p → IsChildAt nodes p i c → IsBelow nodes (suc k) a c
below_more nodes zero a p c i e h = (c, (i, subst (λ x. IsChildAt nodes x i c) (sym e) h), refl)
below_more nodes (suc k) a p c i (b, first, rest) h = (b, first, below_more nodes k b p c i rest h)

pub above_is_below : (nodes : List (List ℕ)) (parents : List (Option ℕ)) (k n a : ℕ) → AreParents nodes parents → IsAbove parents k n a → IsBelow nodes k a n
above_is_below nodes parents zero n a s e = sym e
above_is_below nodes parents (suc k) n a s (p, parent, rest) =
    let child = (s.only n p parent).1 in
    below_more nodes k a p n child.0 (above_is_below nodes parents k p a s rest) child.1

-- ---- faults

pub order_fault : (nodes : List (List ℕ)) (parents : List (Option ℕ)) (e : HierarchyFault) → AreParents nodes parents → IsAtFault parents e → IsHierarchyFault nodes e
order_fault nodes parents (Cycle n) s (k, up) = (k, above_is_below nodes parents (suc k) n n s up)
order_fault nodes parents (Memory e) s h = tt
order_fault nodes parents TooManyNodes s h = absurd h
order_fault nodes parents (NoSuchChild p c) s h = absurd h
order_fault nodes parents (TwoParents c p q) s h = absurd h

pub parent_fault : (nodes : List (List ℕ)) (e : HierarchyFault) → IsParentFault nodes e → IsHierarchyFault nodes e
parent_fault nodes (NoSuchChild p c) h = h
parent_fault nodes (TwoParents c p q) h = h
parent_fault nodes (Memory e) h = tt
parent_fault nodes TooManyNodes h = absurd h
parent_fault nodes (Cycle n) h = absurd h

-- a forest has no fault
pub no_fault : (nodes : List (List ℕ)) (e : HierarchyFault) → IsHierarchyFault nodes e → IsForest nodes → length nodes < 2 ^ 32 → IsOutOfMemory e
no_fault nodes TooManyNodes h f few = absurd (omega (arith, h, few))
no_fault nodes (NoSuchChild p c) (past, (i, at)) f few = absurd (omega (arith, past, f.exist p i c at))
no_fault nodes (TwoParents c p q) (i, j, hp, hq, inl before) f few = absurd (omega (arith, before, (f.one_parent p q i j c hp hq).0))
no_fault nodes (TwoParents c p q) (i, j, hp, hq, inr (same, before)) f few = absurd (omega (arith, before, (f.one_parent p q i j c hp hq).1))
no_fault nodes (Cycle n) (k, below) f few = absurd (f.no_cycle k n below)
no_fault nodes (Memory e) h f few = tt

-- ---- depths

pub are_depths : (nodes : List (List ℕ)) (parents : List (Option ℕ)) (depths : List ℕ) → AreParents nodes parents → AreDepthsOf parents depths → AreDepths nodes depths
are_depths nodes parents depths s o = record {
  len = o.len ∙ s.len;
  each = λ n d e.
      let at : get_or depths n 0 ≡ d = get_or_from_slice_get depths n d 0 e in
      let is : IsDepth parents n d = subst (λ x. IsDepth parents n x) at (o.each n (omega (arith, slice_get_within depths n d e, o.len))) in
      (is.0, (λ p i child. let both : Some None ≡ Some (Some p) = sym is.1 ∙ parent_of_child nodes parents p i is.0 s child in cc), above_is_below nodes parents d n is.0 s is.2);
}
