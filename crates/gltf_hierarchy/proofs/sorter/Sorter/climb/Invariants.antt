use Rattle.std.proofs.Common.{◌≡◌, ℕ, ◌<◌, List, length, get_or, Option, Some, ◌⊎◌}
use Rattle.std.specs.Prelude.{sum_by}
use Rattle.gltf_hierarchy.specs.Sorting.{Holds, IsAt, unseen}
use Rattle.gltf_hierarchy.proofs.sorter.Sorter.climb.Given as goal
use Rattle.gltf_hierarchy.specs.declared.sorter.Sorter.{Sorter}

pub record IsClimbing (parents : List (Option ℕ)) (start : ℕ) (old s : Sorter) (next : Option ℕ) : Type 0 where
  pub holds : Holds parents s
  pub at : IsAt parents s.chain.items next
  pub node : (n : ℕ) → next ≡ Some n → n < length parents
  pub kept : s.places ≡ old.places
  pub begun : ((length s.chain.items ≡ 0) × (next ≡ Some start)) ⊎ (0 < get_or s.steps.items start 0)

abbrev pub invariant-loop-at : goal.invariant-loop-at
invariant-loop-at l = IsClimbing l.parents l.start l.initial.self l.self l.at

abbrev pub decreases-loop-at : goal.decreases-loop-at
decreases-loop-at l = sum_by unseen l.self.steps.items
