-- Section 3.5.2: "The node hierarchy MUST be a set of disjoint strict trees. That is node hierarchy MUST NOT contain cycles and each
-- node MUST have zero or one parent node."
use Rattle.std.specs.Prelude.{◌≡◌, ℕ, suc, ◌<◌, ◌≤◌, ◌^◌, List, length, slice_get, get_or, Option, Some, None}
use Rattle.gltf_hierarchy.specs.declared.forest.Forest.{Forest}
use Rattle.gltf_hierarchy.specs.declared.fault.HierarchyFault.{HierarchyFault}
use Rattle.gltf_hierarchy.specs.declared.fault.HierarchyFault.TheVariants.{TooManyNodes, NoSuchChild, TwoParents, Cycle, Memory}
use Rattle.gltf_hierarchy.specs.Nodes.{IsChildAt, IsBelow}
use Rattle.gltf_hierarchy.specs.Parents.{IsChildTwice}

pub record IsForest (nodes : List (List ℕ)) : Type 0 where
  -- section 5.25.2: `children` has indices of nodes
  pub exist : (p i c : ℕ) → IsChildAt nodes p i c → c < length nodes
  pub one_parent : (p q i j c : ℕ) → IsChildAt nodes p i c → IsChildAt nodes q j c → (p ≡ q) × (i ≡ j)
  pub no_cycle : (k n : ℕ) → IsBelow nodes (suc k) n n → ⊥

-- what a fault says is true
abbrev pub IsHierarchyFault : List (List ℕ) → HierarchyFault → Type 0
IsHierarchyFault nodes TooManyNodes = 2 ^ 32 ≤ length nodes
IsHierarchyFault nodes (NoSuchChild p c) = (length nodes ≤ c) × ((i : ℕ) × IsChildAt nodes p i c)
IsHierarchyFault nodes (TwoParents c p q) = IsChildTwice nodes c p q
IsHierarchyFault nodes (Cycle n) = (k : ℕ) × IsBelow nodes (suc k) n n
IsHierarchyFault nodes (Memory e) = Unit {0}

abbrev pub IsOutOfMemory : HierarchyFault → Type 0
IsOutOfMemory (Memory e) = Unit {0}
IsOutOfMemory e = ⊥

-- each node once, behind its parent
pub record IsParentsFirst (nodes : List (List ℕ)) (order : List ℕ) : Type 0 where
  pub nodes_alone : (i n : ℕ) → slice_get order i ≡ Some n → n < length nodes
  pub each : (n : ℕ) → n < length nodes → (i : ℕ) × (slice_get order i ≡ Some n)
  pub once : (i j n : ℕ) → slice_get order i ≡ Some n → slice_get order j ≡ Some n → i ≡ j
  pub parents_first : (i p n k : ℕ) → slice_get order i ≡ Some n → IsChildAt nodes p k n → (j : ℕ) × (j < i) × (slice_get order j ≡ Some p)

-- section 3.5.2: a node without a parent is a root node
abbrev pub IsRoot : List (List ℕ) → ℕ → Type 0
IsRoot nodes r = (p i : ℕ) → IsChildAt nodes p i r → ⊥

-- the depth of a node is how many steps down from a root it is
pub record AreDepths (nodes : List (List ℕ)) (depths : List ℕ) : Type 0 where
  pub len : length depths ≡ length nodes
  pub each : (n d : ℕ) → slice_get depths n ≡ Some d → (r : ℕ) × IsRoot nodes r × IsBelow nodes d r n

abbrev pub forest_order : Forest → List ℕ
forest_order f = f.order.items

abbrev pub forest_parents : Forest → List (Option ℕ)
forest_parents f = f.parents.items

abbrev pub forest_depths : Forest → List ℕ
forest_depths f = f.depths.items

-- the parent of a node
abbrev pub parent_in : List (Option ℕ) → ℕ → Option ℕ
parent_in parents n = get_or parents n None
