-- What holds while joints are carried up to where they meet.
use Rattle.std.specs.Prelude.{◌≡◌, ℕ, ◌<◌, ◌+◌, List, length, slice_get, Option, Some, None, ◌⊎◌, sum}
use Rattle.std.proofs.Common.{get_or}
use Rattle.std.proofs.Math.ListN.{set}
use Rattle.gltf_hierarchy.specs.Order.{IsAbove}

-- how many of the joints before a bound each node is
pub record AreCounted (count : ℕ) (joints counts : List ℕ) (bound : ℕ) : Type 0 where
  pub len : length counts ≡ count
  pub total : sum counts ≡ bound
  pub each : (k n : ℕ) → k < bound → slice_get joints k ≡ Some n → (n < count) × (0 < get_or counts n 0)
  pub only : (n : ℕ) → 0 < get_or counts n 0 → (k : ℕ) × (slice_get joints k ≡ Some n)

abbrev pub IsAboveAll : List (Option ℕ) → List ℕ → ℕ → Type 0
IsAboveAll parents joints a = (k n : ℕ) → slice_get joints k ≡ Some n → (d : ℕ) × IsAbove parents d n a

abbrev pub IsRootOrNone : List (Option ℕ) → List ℕ → Option ℕ → Type 0
IsRootOrNone parents joints (Some r) = (0 < length joints) × IsAboveAll parents joints r × ((a : ℕ) → IsAboveAll parents joints a → (d : ℕ) × IsAbove parents d r a)
IsRootOrNone parents joints None = (length joints ≡ 0) ⊎ ((a : ℕ) → IsAboveAll parents joints a → ⊥)

-- how many joints have been carried to each node; each such node stands before a place of the order
pub record IsGathering (parents : List (Option ℕ)) (order joints counts : List ℕ) (bound : ℕ) : Type 0 where
  pub len : length counts ≡ length parents
  pub total : sum counts ≡ length joints
  pub over : (k n : ℕ) → slice_get joints k ≡ Some n → (a d : ℕ) × (0 < get_or counts a 0) × IsAbove parents d n a
  pub under : (m n : ℕ) → IsAboveAll parents joints m → 0 < get_or counts n 0 → (d : ℕ) × IsAbove parents d n m
  pub early : (n : ℕ) → 0 < get_or counts n 0 → (p : ℕ) × (p < bound) × (slice_get order p ≡ Some n)

-- what a node has is carried to its parent
abbrev pub carried : List ℕ → ℕ → ℕ → List ℕ
carried counts n p = set (set counts p (get_or counts p 0 + get_or counts n 0)) n 0
