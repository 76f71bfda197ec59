use Rattle.std.proofs.Common.{ℕ, ◌+◌, List, length, Option, subst, sym, arith, inl, inr}
use Rattle.gltf_hierarchy.specs.declared.fault.HierarchyFault.{HierarchyFault}
use Rattle.gltf_hierarchy.specs.declared.fault.HierarchyFault.TheVariants.{TooManyNodes, NoSuchChild, TwoParents, Cycle, Memory}
use Rattle.gltf_hierarchy.specs.Nodes.{children_of}
use Rattle.gltf_hierarchy.specs.Forest.{IsForest}
use Rattle.gltf_hierarchy.specs.Parents.{AreParentsBelow, IsChildTwice}
use Rattle.gltf_hierarchy.specs.Adopted.{IsRefused}
use Rattle.gltf_hierarchy.specs.Listing.{IsListed, IsQuiet, IsFaultless, places_below}
use Rattle.gltf_hierarchy.proofs.Parenting.{more_parents, refused_is_fault}
use Rattle.gltf_hierarchy.proofs.Listing.{places_more}
use Rattle.gltf_hierarchy.proofs.faults.first_parents.Goals as goal

two_places : (nodes : List (List ℕ)) (c p q : ℕ) → IsChildTwice nodes c p q → IsForest nodes → ⊥
two_places nodes c p q (i, j, hp, hq, inl before) f = omega (arith, before, (f.one_parent p q i j c hp hq).0)
two_places nodes c p q (i, j, hp, hq, inr (same, before)) f = omega (arith, before, (f.one_parent p q i j c hp hq).1)

no_refusal : (nodes : List (List ℕ)) (parents : List (Option ℕ)) (n : ℕ) (e : HierarchyFault) → AreParentsBelow nodes parents n → IsRefused parents n (children_of nodes n) e → IsForest nodes → ⊥
no_refusal nodes parents n (NoSuchChild p c) s h f = let is = refused_is_fault nodes parents n (NoSuchChild p c) s h in omega (arith, is.0, f.exist p is.1.0 c is.1.1)
no_refusal nodes parents n (TwoParents c p q) s h f = two_places nodes c p q (refused_is_fault nodes parents n (TwoParents c p q) s h) f
no_refusal nodes parents n TooManyNodes s h f = absurd h
no_refusal nodes parents n (Cycle m) s h f = absurd h
no_refusal nodes parents n (Memory e) s h f = absurd h

faultless_more : (nodes : List (List ℕ)) (parents new : List (Option ℕ)) (faults now : List HierarchyFault) (k : ℕ) → IsFaultless nodes parents faults k → IsQuiet parents new k (children_of nodes k) (length (children_of nodes k)) faults now → IsFaultless nodes new now (k + 1)
faultless_more nodes parents new faults now k (inl (e, s)) (inl (b, n, a)) = inl (n, more_parents nodes parents new k s a)
faultless_more nodes parents new faults now k (inl (e, s)) (inr (some, why)) = inr (some, λ f. let r = why e in no_refusal nodes parents k r.0 s r.1 f)
faultless_more nodes parents new faults now k (inr (some, none)) (inl (b, n, a)) = absurd (some b)
faultless_more nodes parents new faults now k (inr (some, none)) (inr (more, why)) = inr (more, none)

pub loop-number-preserved : goal.loop-number-preserved
loop-number-preserved g c =
    let nodes : List (List ℕ) = g.H.Hierarchy.children c.args.nodes.now in
    let k : ℕ = c.loop-number.number in
    record {
      listed = subst (λ xs. IsListed (length nodes) xs c.add_places.new.parents.items c.add_places.new.faults.items) (sym (places_more nodes k (omega arith))) (c.in_ok-add_places.ensures.listed (length nodes) (places_below nodes k) c.loop-number.invariant.listed);
      faultless = faultless_more nodes c.loop-number.parents.items c.add_places.new.parents.items c.loop-number.faults.items c.add_places.new.faults.items k c.loop-number.invariant.faultless c.in_ok-add_places.ensures.quiet;
    }
