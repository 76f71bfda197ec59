use Rattle.std.proofs.Common.{ℕ, List, [], length, Option}
use Rattle.gltf_hierarchy.specs.Parents.{AreParentsBelow}
use Rattle.gltf_hierarchy.specs.Listing.{IsListed, places_below}
use Rattle.gltf_hierarchy.proofs.parents.parents_of.Given as goal

pub record IsParenting (nodes : List (List ℕ)) (parents : List (Option ℕ)) (bound : ℕ) : Type 0 where
  pub below : AreParentsBelow nodes parents bound
  pub listed : IsListed (length nodes) (places_below nodes bound) parents []

abbrev pub invariant-loop-number : goal.invariant-loop-number
invariant-loop-number g l = IsParenting (g.H.Hierarchy.children l.nodes) l.parents.items l.number
