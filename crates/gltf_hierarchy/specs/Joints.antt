-- Section 3.7.3.2: the joints of a skin have a common root, which may be a joint itself.
use Rattle.std.specs.Prelude.{◌≡◌, ℕ, ◌<◌, ◌≤◌, List, length, slice_get, Option, Some, None, ◌⊎◌}
use Rattle.gltf_hierarchy.specs.declared.fault.JointFault.{JointFault}
use Rattle.gltf_hierarchy.specs.declared.fault.JointFault.TheVariants.{NoSuchNode, Memory}
use Rattle.gltf_hierarchy.specs.Nodes.{IsBelow}

-- a node is each of the joints, or above it
abbrev pub IsOverAll : List (List ℕ) → List ℕ → ℕ → Type 0
IsOverAll nodes joints a = (k n : ℕ) → slice_get joints k ≡ Some n → (d : ℕ) × IsBelow nodes d a n

-- the deepest such node: each other one is above it
pub record IsCommonRoot (nodes : List (List ℕ)) (joints : List ℕ) (root : ℕ) : Type 0 where
  pub joints_exist : 0 < length joints
  pub over_all : IsOverAll nodes joints root
  pub deepest : (a : ℕ) → IsOverAll nodes joints a → (d : ℕ) × IsBelow nodes d a root

-- the common root, if there are joints and a node is over all of them
abbrev pub IsCommonRootOrNone : List (List ℕ) → List ℕ → Option ℕ → Type 0
IsCommonRootOrNone nodes joints (Some root) = IsCommonRoot nodes joints root
IsCommonRootOrNone nodes joints None = (length joints ≡ 0) ⊎ ((a : ℕ) → IsOverAll nodes joints a → ⊥)

-- each joint is a node, of so many
abbrev pub AreAllNodes : ℕ → List ℕ → Type 0
AreAllNodes count joints = (k n : ℕ) → slice_get joints k ≡ Some n → n < count

-- the first joint that is no node, of so many
abbrev pub IsJointFault : ℕ → List ℕ → JointFault → Type 0
IsJointFault count joints (NoSuchNode place n) = (slice_get joints place ≡ Some n) × (count ≤ n) × ((k m : ℕ) → k < place → slice_get joints k ≡ Some m → m < count)
IsJointFault count joints (Memory e) = Unit {0}
