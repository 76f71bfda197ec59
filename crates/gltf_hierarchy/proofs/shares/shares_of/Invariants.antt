use Rattle.std.proofs.Common.{ℕ, List, Option}
use Rattle.gltf_hierarchy.specs.Forest.{forest_order, forest_parents}
use Rattle.gltf_hierarchy.specs.Shares.{AreShares, AreHeld}
use Rattle.gltf_hierarchy.proofs.shares.shares_of.Given as goal

pub record IsSharing (parents : List (Option ℕ)) (order sizes offsets : List ℕ) (bound : ℕ) : Type 0 where
  pub shares : AreShares parents order sizes offsets bound
  pub held : AreHeld parents order sizes bound

abbrev pub invariant-loop-place : goal.invariant-loop-place
invariant-loop-place l = IsSharing (forest_parents l.forest) (forest_order l.forest) l.sizes.items l.offsets.items l.place
