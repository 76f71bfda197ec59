-- Nodes in order, from the parent of each (glTF 2.0, section 3.5.2).
use Rattle.std.specs.Prelude.{◌≡◌, ℕ, zero, suc, ◌<◌, List, length, slice_get, Option, Some}
use Rattle.gltf_hierarchy.specs.declared.fault.HierarchyFault.{HierarchyFault}
use Rattle.gltf_hierarchy.specs.declared.fault.HierarchyFault.TheVariants.{TooManyNodes, NoSuchChild, TwoParents, Cycle, Memory}

-- the parent of a node
abbrev pub IsParent : List (Option ℕ) → ℕ → ℕ → Type 0
IsParent parents n p = slice_get parents n ≡ Some (Some p)

abbrev pub AreNodes : List (Option ℕ) → Type 0
AreNodes parents = (n p : ℕ) → IsParent parents n p → p < length parents

-- so many steps up from a node is another
abbrev pub IsAbove : List (Option ℕ) → ℕ → ℕ → ℕ → Type 0
IsAbove parents zero n a = n ≡ a
IsAbove parents (suc k) n a = (p : ℕ) × IsParent parents n p × IsAbove parents k p a

pub record IsOrder (parents : List (Option ℕ)) (order : List ℕ) : Type 0 where
  pub nodes : (i n : ℕ) → slice_get order i ≡ Some n → n < length parents
  pub each : (n : ℕ) → n < length parents → (i : ℕ) × (slice_get order i ≡ Some n)
  pub once : (i j n : ℕ) → slice_get order i ≡ Some n → slice_get order j ≡ Some n → i ≡ j
  pub parents_first : (i n p : ℕ) → slice_get order i ≡ Some n → IsParent parents n p → (j : ℕ) × (j < i) × (slice_get order j ≡ Some p)

-- the same, without a choice of places
pub record IsOrdered (parents : List (Option ℕ)) (order : List ℕ) : Type 0 where
  pub nodes : (i n : ℕ) → slice_get order i ≡ Some n → n < length parents
  pub each : (n : ℕ) → n < length parents → ((i : ℕ) → slice_get order i ≡ Some n → ⊥) → ⊥
  pub once : (i j n : ℕ) → slice_get order i ≡ Some n → slice_get order j ≡ Some n → i ≡ j
  pub parents_first : (i j n p : ℕ) → slice_get order i ≡ Some n → IsParent parents n p → slice_get order j ≡ Some p → j < i

-- a cycle, if it isn't out of memory
abbrev pub IsAtFault : List (Option ℕ) → HierarchyFault → Type 0
IsAtFault parents (Cycle n) = (k : ℕ) × IsAbove parents (suc k) n n
IsAtFault parents (Memory e) = Unit {0}
IsAtFault parents TooManyNodes = ⊥
IsAtFault parents (NoSuchChild p c) = ⊥
IsAtFault parents (TwoParents c p q) = ⊥
