-- Section 3.5.2: "node hierarchy MUST NOT contain cycles". Here each node has one parent at most, so no two cycles have a node in common.
use Rattle.std.specs.Prelude.{◌≡◌, ℕ, suc, ◌≤◌, List, length, Option, Bool, true, false}
use Rattle.std.proofs.Common.{get_or}
use Rattle.gltf_hierarchy.specs.Order.{IsAbove}

-- a node is on a cycle if it is above itself
abbrev pub IsOnCycle : List (Option ℕ) → ℕ → Type 0
IsOnCycle parents n = (k : ℕ) × IsAbove parents (suc k) n n

-- the lowest node of a cycle: the nodes above it are those of the cycle
pub record IsLowest (parents : List (Option ℕ)) (n : ℕ) : Type 0 where
  pub on_cycle : IsOnCycle parents n
  pub lowest : (k a : ℕ) → IsAbove parents k n a → n ≤ a

-- the lowest node of each cycle has a mark, and no other node
pub record AreLowest (parents : List (Option ℕ)) (marks : List Bool) : Type 0 where
  pub len : length marks ≡ length parents
  pub marked : (n : ℕ) → get_or marks n false ≡ true → IsLowest parents n
  pub each : (n : ℕ) → IsOnCycle parents n → (m d : ℕ) × (get_or marks m false ≡ true) × IsAbove parents d n m
