-- What holds while nodes become the parents of their children.
use Rattle.std.specs.Prelude.{◌≡◌, ℕ, ◌<◌, ◌≤◌, List, length, slice_get, Option, Some, ◌⊎◌}
use Rattle.gltf_hierarchy.specs.declared.fault.HierarchyFault.{HierarchyFault}
use Rattle.gltf_hierarchy.specs.declared.fault.HierarchyFault.TheVariants.{TooManyNodes, NoSuchChild, TwoParents, Cycle, Memory}
use Rattle.gltf_hierarchy.specs.Nodes.{IsChildAt}
use Rattle.gltf_hierarchy.specs.Parents.{IsChildTwice}

abbrev pub IsParentFault : List (List ℕ) → HierarchyFault → Type 0
IsParentFault nodes (NoSuchChild p c) = (length nodes ≤ c) × ((i : ℕ) × IsChildAt nodes p i c)
IsParentFault nodes (TwoParents c p q) = IsChildTwice nodes c p q
IsParentFault nodes (Memory e) = Unit {0}
IsParentFault nodes TooManyNodes = ⊥
IsParentFault nodes (Cycle n) = ⊥

-- what is left when a node has become the parent of the first of these, up to a bound
pub record AreAdopted (old new : List (Option ℕ)) (parent : ℕ) (children : List ℕ) (bound : ℕ) : Type 0 where
  pub len : length new ≡ length old
  pub each : (i c : ℕ) → i < bound → slice_get children i ≡ Some c → slice_get new c ≡ Some (Some parent)
  pub kept : (c p : ℕ) → slice_get old c ≡ Some (Some p) → slice_get new c ≡ Some (Some p)
  pub only : (c p : ℕ) → slice_get new c ≡ Some (Some p) → (slice_get old c ≡ Some (Some p)) ⊎ ((p ≡ parent) × ((i : ℕ) × (i < bound) × (slice_get children i ≡ Some c)))
  pub once : (i j c : ℕ) → i < bound → j < bound → slice_get children i ≡ Some c → slice_get children j ≡ Some c → i ≡ j

abbrev pub IsAdopted : List (Option ℕ) → List (Option ℕ) → ℕ → List ℕ → Type 0
IsAdopted old new parent children = AreAdopted old new parent children (length children)

-- why a node can't become the parent of these
abbrev pub IsRefused : List (Option ℕ) → ℕ → List ℕ → HierarchyFault → Type 0
IsRefused old parent children (NoSuchChild p c) = (p ≡ parent) × (length old ≤ c) × ((i : ℕ) × (slice_get children i ≡ Some c))
IsRefused old parent children (TwoParents c p q) = (q ≡ parent) × ((i : ℕ) × (slice_get children i ≡ Some c) × ((slice_get old c ≡ Some (Some p)) ⊎ ((p ≡ parent) × ((j : ℕ) × (j < i) × (slice_get children j ≡ Some c)))))
IsRefused old parent children TooManyNodes = ⊥
IsRefused old parent children (Cycle n) = ⊥
IsRefused old parent children (Memory e) = ⊥
