use Rattle.std.proofs.Common.{◌≡◌, ℕ, List, [], Option, subst}
use Rattle.gltf_hierarchy.specs.Order.{IsOrder, IsAtFault}
use Rattle.gltf_hierarchy.specs.Depths.{AreDepthsOf}
use Rattle.gltf_hierarchy.specs.declared.fault.HierarchyFault.{HierarchyFault}
use Rattle.gltf_hierarchy.specs.declared.fault.HierarchyFault.TheVariants.{TooManyNodes, NoSuchChild, TwoParents, Cycle, Memory}
use Rattle.gltf_hierarchy.specs.Faults.{IsFirstFault, place_faults}
use Rattle.gltf_hierarchy.specs.Forest.{IsHierarchyFault}
use Rattle.gltf_hierarchy.proofs.Trees.{is_forest, parents_first, are_depths, order_fault, no_fault, are_nodes}
use Rattle.gltf_hierarchy.proofs.Ordered.{ordered}
use Rattle.gltf_hierarchy.proofs.forest.Forest.of.Goals as goal

pub returns-in-Err-order_of-clause-fault : goal.returns-in-Err-order_of-clause-fault
returns-in-Err-order_of-clause-fault g c = order_fault (g.H.Hierarchy.children c.args.nodes.now) c.in-Ok.parents.items c.in-Err-order_of.fault c.in-Ok.ensures.found (subst (λ xs. IsAtFault xs c.in-Err-order_of.fault) c.deref.ensures.value c.in-Err-order_of.ensures.cyclic)

pub returns-in-Err-order_of-clause-only : goal.returns-in-Err-order_of-clause-only
returns-in-Err-order_of-clause-only g c = λ forest few.
    let nodes = g.H.Hierarchy.children c.args.nodes.now in
    let fault : IsHierarchyFault nodes c.in-Err-order_of.fault = order_fault nodes c.in-Ok.parents.items c.in-Err-order_of.fault c.in-Ok.ensures.found (subst (λ xs. IsAtFault xs c.in-Err-order_of.fault) c.deref.ensures.value c.in-Err-order_of.ensures.cyclic) in
    no_fault nodes c.in-Err-order_of.fault fault forest few

pub returns-in-Ok-depths_of-clause-forest : goal.returns-in-Ok-depths_of-clause-forest
returns-in-Ok-depths_of-clause-forest g c = is_forest (g.H.Hierarchy.children c.args.nodes.now) c.in-Ok.parents.items c.in-Ok-order_of.order.items c.in-Ok.ensures.found (subst (λ xs. IsOrder xs c.in-Ok-order_of.order.items) c.deref.ensures.value c.in-Ok-order_of.ensures.ordered)

pub returns-in-Ok-depths_of-clause-order : goal.returns-in-Ok-depths_of-clause-order
returns-in-Ok-depths_of-clause-order g c = parents_first (g.H.Hierarchy.children c.args.nodes.now) c.in-Ok.parents.items c.in-Ok-order_of.order.items c.in-Ok.ensures.found (subst (λ xs. IsOrder xs c.in-Ok-order_of.order.items) c.deref.ensures.value c.in-Ok-order_of.ensures.ordered)

pub returns-in-Ok-depths_of-clause-depths : goal.returns-in-Ok-depths_of-clause-depths
returns-in-Ok-depths_of-clause-depths g c = are_depths (g.H.Hierarchy.children c.args.nodes.now) c.in-Ok.parents.items c.in-Ok-depths_of.depths.items c.in-Ok.ensures.found (subst (λ xs. AreDepthsOf xs c.in-Ok-depths_of.depths.items) c.deref-2.ensures.value c.in-Ok-depths_of.ensures)

pub invariant_of-result : goal.invariant_of-result
invariant_of-result g c = record {
  nodes = are_nodes (g.H.Hierarchy.children c.args.nodes.now) c.in-Ok.parents.items c.in-Ok.ensures.found;
  ordered = ordered c.in-Ok.parents.items c.in-Ok-order_of.order.items (subst (λ xs. IsOrder xs c.in-Ok-order_of.order.items) c.deref.ensures.value c.in-Ok-order_of.ensures.ordered);
}

order_first : (nodes : List (List ℕ)) (parents : List (Option ℕ)) (e : HierarchyFault) → place_faults nodes ≡ [] → IsAtFault parents e → IsFirstFault nodes e
order_first nodes parents (Cycle n) none h = none
order_first nodes parents (Memory e) none h = tt
order_first nodes parents TooManyNodes none h = tt
order_first nodes parents (NoSuchChild p c) none h = absurd h
order_first nodes parents (TwoParents c p q) none h = absurd h

pub returns-in-Err-order_of-clause-first : goal.returns-in-Err-order_of-clause-first
returns-in-Err-order_of-clause-first g c = order_first (g.H.Hierarchy.children c.args.nodes.now) c.deref.result.now c.in-Err-order_of.fault c.in-Ok.ensures.none c.in-Err-order_of.ensures.cyclic
