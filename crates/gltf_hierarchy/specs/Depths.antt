-- The depth of each node, from the parent of each.
use Rattle.std.specs.Prelude.{◌≡◌, ℕ, ◌+◌, ◌<◌, ◌≤◌, List, length, slice_get, Option, Some, None}
use Rattle.std.proofs.Common.{get_or}
use Rattle.gltf_hierarchy.specs.Order.{IsAbove}

-- a node is so many steps below one without a parent
abbrev pub IsDepth : List (Option ℕ) → ℕ → ℕ → Type 0
IsDepth parents n d = (r : ℕ) × (slice_get parents r ≡ Some None) × IsAbove parents d n r

-- the depths of the nodes before a place in the order
pub record AreDepthsBefore (parents : List (Option ℕ)) (order depths : List ℕ) (bound : ℕ) : Type 0 where
  pub len : length depths ≡ length parents
  pub each : (i n : ℕ) → i < bound → slice_get order i ≡ Some n → IsDepth parents n (get_or depths n 0)
  pub small : (i n : ℕ) → i < bound → slice_get order i ≡ Some n → get_or depths n 0 ≤ i

pub record AreDepthsOf (parents : List (Option ℕ)) (depths : List ℕ) : Type 0 where
  pub len : length depths ≡ length parents
  pub each : (n : ℕ) → n < length parents → IsDepth parents n (get_or depths n 0)

-- one more than the depth of the parent
abbrev pub depth_under : Option ℕ → List ℕ → ℕ
depth_under None depths = 0
depth_under (Some p) depths = get_or depths p 0 + 1
