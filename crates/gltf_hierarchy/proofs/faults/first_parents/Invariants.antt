use Rattle.std.proofs.Common.{ℕ, List, length, Option}
use Rattle.gltf_hierarchy.specs.declared.fault.HierarchyFault.{HierarchyFault}
use Rattle.gltf_hierarchy.specs.Listing.{IsListed, IsFaultless, places_below}
use Rattle.gltf_hierarchy.proofs.faults.first_parents.Given as goal

pub record IsFirst (nodes : List (List ℕ)) (bound : ℕ) (parents : List (Option ℕ)) (faults : List HierarchyFault) : Type 0 where
  pub listed : IsListed (length nodes) (places_below nodes bound) parents faults
  pub faultless : IsFaultless nodes parents faults bound

abbrev pub invariant-loop-number : goal.invariant-loop-number
invariant-loop-number g l = IsFirst (g.H.Hierarchy.children l.nodes) l.number l.parents.items l.faults.items
