use Rattle.std.proofs.Common.{ℕ, List, ◌++◌, take, Option}
use Rattle.gltf_hierarchy.specs.declared.fault.HierarchyFault.{HierarchyFault}
use Rattle.gltf_hierarchy.specs.Nodes.{children_of}
use Rattle.gltf_hierarchy.specs.Faults.{Place, places_in}
use Rattle.gltf_hierarchy.specs.Listing.{IsListed, IsQuiet}
use Rattle.gltf_hierarchy.proofs.faults.add_places.Given as goal

pub record IsAdding (children : List ℕ) (parent place : ℕ) (old new : List (Option ℕ)) (before now : List HierarchyFault) : Type 0 where
  pub listed : (count : ℕ) (places : List Place) → IsListed count places old before → IsListed count (places ++ places_in parent (take place children)) new now
  pub quiet : IsQuiet old new parent children place before now

abbrev pub invariant-loop-place : goal.invariant-loop-place
invariant-loop-place g l = IsAdding (children_of (g.H.Hierarchy.children l.nodes) l.parent) l.parent l.place l.initial.parents.items l.parents.items l.initial.faults.items l.faults.items
