use Rattle.std.proofs.Common.{ℕ, List, [], ◌++◌, take, Option}
use Rattle.gltf_hierarchy.specs.Nodes.{children_of}
use Rattle.gltf_hierarchy.specs.Adopted.{AreAdopted}
use Rattle.gltf_hierarchy.specs.Faults.{Place, places_in}
use Rattle.gltf_hierarchy.specs.Listing.{IsListed}
use Rattle.gltf_hierarchy.proofs.parents.adopt.Given as goal

pub record IsAdopting (children : List ℕ) (parent place : ℕ) (old new : List (Option ℕ)) : Type 0 where
  pub adopted : AreAdopted old new parent children place
  pub listed : (count : ℕ) (before : List Place) → IsListed count before old [] → IsListed count (before ++ places_in parent (take place children)) new []

abbrev pub invariant-loop-place : goal.invariant-loop-place
invariant-loop-place g l = IsAdopting (children_of (g.H.Hierarchy.children l.nodes) l.parent) l.parent l.place l.initial.parents.items l.parents.items
