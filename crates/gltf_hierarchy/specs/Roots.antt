-- The root of the tree that each node is in.
use Rattle.std.specs.Prelude.{◌≡◌, ℕ, ◌<◌, List, length, slice_get, Option, Some, None}
use Rattle.std.proofs.Common.{get_or}
use Rattle.gltf_hierarchy.specs.Order.{IsAbove}

-- a root that is a node or above it
abbrev pub IsTreeRoot : List (Option ℕ) → ℕ → ℕ → Type 0
IsTreeRoot parents n r = (d : ℕ) × (slice_get parents r ≡ Some None) × IsAbove parents d n r

-- those of the nodes before a place of the order
pub record AreRootsBefore (parents : List (Option ℕ)) (order roots : List ℕ) (bound : ℕ) : Type 0 where
  pub len : length roots ≡ length parents
  pub each : (i n : ℕ) → i < bound → slice_get order i ≡ Some n → IsTreeRoot parents n (get_or roots n 0)

pub record AreRoots (parents : List (Option ℕ)) (roots : List ℕ) : Type 0 where
  pub len : length roots ≡ length parents
  pub each : (n : ℕ) → n < length parents → IsTreeRoot parents n (get_or roots n 0)

-- the root above the parent, or the node itself
abbrev pub root_under : ℕ → Option ℕ → List ℕ → ℕ
root_under n None roots = n
root_under n (Some p) roots = get_or roots p 0
