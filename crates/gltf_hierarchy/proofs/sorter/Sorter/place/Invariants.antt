use Rattle.std.proofs.Common.{◌≡◌, ℕ, ◌<◌, List, length, get_or, Option}
use Rattle.gltf_hierarchy.specs.Sorting.{IsClimbed}
use Rattle.gltf_hierarchy.specs.declared.sorter.Sorter.{Sorter}
use Rattle.gltf_hierarchy.proofs.sorter.Sorter.place.Given as goal

pub record IsPlacing (parents : List (Option ℕ)) (old s : Sorter) : Type 0 where
  pub climbed : IsClimbed parents s
  pub more : (n : ℕ) → 0 < get_or old.places.items n 0 → 0 < get_or s.places.items n 0
  pub kept : s.steps ≡ old.steps

abbrev pub invariant-loop-node : goal.invariant-loop-node
invariant-loop-node l = IsPlacing l.parents l.initial.self l.self

abbrev pub decreases-loop-node : goal.decreases-loop-node
decreases-loop-node l = length l.self.chain.items
