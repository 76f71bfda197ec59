use Rattle.std.proofs.Common.{◌≡◌, ℕ, ◌<◌, List, length, get_or, Option, Some, ◌⊎◌}
use Rattle.std.specs.Prelude.{sum_by}
use Rattle.gltf_hierarchy.specs.Trailing.{IsClimb, IsNext}
use Rattle.gltf_hierarchy.specs.declared.cycles.Trail.{Trail}
use Rattle.gltf_hierarchy.specs.Sorting.{unseen}
use Rattle.gltf_hierarchy.proofs.cycles.Trail.climb.Given as goal

pub record IsClimbing (parents : List (Option ℕ)) (start : ℕ) (old new : Trail) (next : Option ℕ) : Type 0 where
  pub climb : IsClimb parents (length old.nodes.items) old.steps.items new.steps.items new.nodes.items
  pub ahead : IsNext parents new.nodes.items (length old.nodes.items) next
  pub node : (n : ℕ) → next ≡ Some n → n < length parents
  pub begun : ((length new.nodes.items ≡ length old.nodes.items) × (next ≡ Some start)) ⊎ (0 < get_or new.steps.items start 0)

abbrev pub invariant-loop-at : goal.invariant-loop-at
invariant-loop-at l = (l.base ≡ length l.fn.self.nodes.items) × IsClimbing l.parents l.start l.fn.self l.self l.at

abbrev pub decreases-loop-at : goal.decreases-loop-at
decreases-loop-at l = sum_by unseen l.self.steps.items
