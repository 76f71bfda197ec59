-- The parent of each node.
use Rattle.std.specs.Prelude.{◌≡◌, ℕ, ◌<◌, List, length, slice_get, Option, Some, ◌⊎◌}
use Rattle.gltf_hierarchy.specs.Nodes.{IsChildAt}

-- parents has the parent of each child of the nodes below a number, and nothing else
pub record AreParentsBelow (nodes : List (List ℕ)) (parents : List (Option ℕ)) (bound : ℕ) : Type 0 where
  pub len : length parents ≡ length nodes
  pub each : (p i c : ℕ) → p < bound → IsChildAt nodes p i c → slice_get parents c ≡ Some (Some p)
  pub only : (c p : ℕ) → slice_get parents c ≡ Some (Some p) → (p < bound) × ((i : ℕ) × IsChildAt nodes p i c)
  pub once : (p i j c : ℕ) → p < bound → IsChildAt nodes p i c → IsChildAt nodes p j c → i ≡ j

abbrev pub AreParents : List (List ℕ) → List (Option ℕ) → Type 0
AreParents nodes parents = AreParentsBelow nodes parents (length nodes)

-- a node is a child at two places, of these nodes
abbrev pub IsChildTwice : List (List ℕ) → ℕ → ℕ → ℕ → Type 0
IsChildTwice nodes c p q = (i j : ℕ) × IsChildAt nodes p i c × IsChildAt nodes q j c × ((p < q) ⊎ ((p ≡ q) × (i < j)))
