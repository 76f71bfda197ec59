use Rattle.std.proofs.Common.{ℕ, ◌<◌, List, get_or, Option}
use Rattle.gltf_hierarchy.specs.Sorting.{IsRested}
use Rattle.gltf_hierarchy.specs.declared.sorter.Sorter.{Sorter}
use Rattle.gltf_hierarchy.proofs.sorter.order_of.Given as goal

pub record IsOrdering (parents : List (Option ℕ)) (start : ℕ) (s : Sorter) : Type 0 where
  pub rested : IsRested parents s
  pub done : (n : ℕ) → n < start → 0 < get_or s.places.items n 0

abbrev pub invariant-loop-start : goal.invariant-loop-start
invariant-loop-start l = IsOrdering l.parents l.start l.sorter
