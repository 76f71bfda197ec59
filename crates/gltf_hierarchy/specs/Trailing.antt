-- What holds while cycles are looked for.
use Rattle.std.specs.Prelude.{◌≡◌, ℕ, ◌<◌, ◌≤◌, ◌+◌, ◌-◌, List, length, slice_get, Option, Some, None, Bool, true, false}
use Rattle.std.proofs.Common.{get_or}
use Rattle.gltf_hierarchy.specs.Order.{IsAbove}
use Rattle.gltf_hierarchy.specs.Sorting.{parent_of}
use Rattle.gltf_hierarchy.specs.Cycles.{IsOnCycle, IsLowest}
use Rattle.gltf_hierarchy.specs.declared.cycles.Trail.{Trail}

-- a number of the list from a place on, and none of them is less
pub record IsLeast (nodes : List ℕ) (first least : ℕ) : Type 0 where
  pub at : (i : ℕ) × (first ≤ i) × (slice_get nodes i ≡ Some least)
  pub no_less : (i n : ℕ) → first ≤ i → slice_get nodes i ≡ Some n → least ≤ n

-- the steps say where each node is in the trail
pub record IsTrail (parents : List (Option ℕ)) (steps nodes : List ℕ) : Type 0 where
  pub len : length steps ≡ length parents
  pub found : (n : ℕ) → 0 < get_or steps n 0 → (get_or steps n 0 ≤ length nodes) × (get_or nodes (get_or steps n 0 - 1) 0 ≡ n)
  pub stepped : (j : ℕ) → j < length nodes → get_or steps (get_or nodes j 0) 0 ≡ j + 1

-- the parent of a node before a bound of the trail is before it too
abbrev pub IsClosed : List (Option ℕ) → List ℕ → ℕ → Type 0
IsClosed parents steps bound = (n p : ℕ) → 0 < get_or steps n 0 → get_or steps n 0 ≤ bound → parent_of parents n ≡ Some p → (0 < get_or steps p 0) × (get_or steps p 0 ≤ bound)

pub record IsResting (parents : List (Option ℕ)) (t : Trail) : Type 0 where
  pub trail : IsTrail parents t.steps.items t.nodes.items
  pub closed : IsClosed parents t.steps.items (length t.nodes.items)

-- the parent of the last node that a climb from a base met
abbrev pub IsNext : List (Option ℕ) → List ℕ → ℕ → Option ℕ → Type 0
IsNext parents nodes base next = (j : ℕ) → base ≤ j → j + 1 ≡ length nodes → parent_of parents (get_or nodes j 0) ≡ next

-- a climb so far, from a base; `old` are the steps before it
pub record IsClimb (parents : List (Option ℕ)) (base : ℕ) (old steps nodes : List ℕ) : Type 0 where
  pub trail : IsTrail parents steps nodes
  pub longer : base ≤ length nodes
  pub closed : IsClosed parents steps base
  pub kept : (n : ℕ) → 0 < get_or old n 0 → 0 < get_or steps n 0
  pub before : (n : ℕ) → 0 < get_or steps n 0 → get_or steps n 0 ≤ base → 0 < get_or old n 0
  pub linked : (j : ℕ) → base ≤ j → j + 1 < length nodes → parent_of parents (get_or nodes j 0) ≡ Some (get_or nodes (j + 1) 0)

-- where a climb ends: in a cycle that begins at a place of the trail, or at a root or an earlier node
abbrev pub IsTop : List (Option ℕ) → ℕ → List ℕ → List ℕ → Option ℕ → Type 0
IsTop parents base steps nodes (Some q) = (base ≤ q) × (q < length nodes) × IsNext parents nodes base (Some (get_or nodes q 0))
IsTop parents base steps nodes None = (next : Option ℕ) × IsNext parents nodes base next × ((f : ℕ) → next ≡ Some f → (0 < get_or steps f 0) × (get_or steps f 0 ≤ base))

pub record IsEnd (parents : List (Option ℕ)) (start : ℕ) (old new : Trail) (end : Option ℕ) : Type 0 where
  pub climb : IsClimb parents (length old.nodes.items) old.steps.items new.steps.items new.nodes.items
  pub reached : 0 < get_or new.steps.items start 0
  pub top : IsTop parents (length old.nodes.items) new.steps.items new.nodes.items end

-- the cycles among the nodes of a trail have their marks
pub record IsMarking (parents : List (Option ℕ)) (start : ℕ) (t : Trail) (marks : List Bool) : Type 0 where
  pub resting : IsResting parents t
  pub done : (n : ℕ) → n < start → 0 < get_or t.steps.items n 0
  pub len : length marks ≡ length parents
  pub marked : (n : ℕ) → get_or marks n false ≡ true → IsLowest parents n
  pub each : (n : ℕ) → 0 < get_or t.steps.items n 0 → IsOnCycle parents n → (m d : ℕ) × (get_or marks m false ≡ true) × IsAbove parents d n m
