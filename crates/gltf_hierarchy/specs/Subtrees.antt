-- Which nodes are below which (glTF 2.0, section 3.5.2).
use Rattle.std.specs.Prelude.{◌≡◌, ◌↔◌, ℕ, ◌-◌, ◌<◌, List, length, slice_get, Some, Bool, true, ◌&&◌, nat_lt, nat_le}
use Rattle.std.proofs.Common.{get_or}
use Rattle.gltf_hierarchy.specs.Nodes.{IsBelow}
use Rattle.gltf_hierarchy.specs.Forest.{IsRoot}
use Rattle.gltf_hierarchy.specs.declared.subtrees.Subtrees.{Subtrees}

-- a node is another, or below it
abbrev pub IsAtOrBelow : List (List ℕ) → ℕ → ℕ → Type 0
IsAtOrBelow nodes top n = (d : ℕ) × IsBelow nodes d top n

abbrev pub tree_roots : Subtrees → List ℕ
tree_roots s = s.roots.items

abbrev pub first_of : Subtrees → ℕ → ℕ
first_of s n = get_or s.firsts.items n 0

abbrev pub size_of : Subtrees → ℕ → ℕ
size_of s n = get_or s.sizes.items n 0

-- the number of a node is that of the other, or less than the other's size behind it
abbrev pub is_in_range : Subtrees → ℕ → ℕ → Bool
is_in_range s top n = nat_le (first_of s top) (first_of s n) && nat_lt (first_of s n - first_of s top) (size_of s top)

-- both nodes exist, and so are their numbers
abbrev pub is_at_or_below : Subtrees → ℕ → ℕ → Bool
is_at_or_below s top n = (nat_lt top (length (tree_roots s)) && nat_lt n (length (tree_roots s))) && is_in_range s top n

-- what the numbers and the roots say of nodes is true
pub record AreSubtrees (nodes : List (List ℕ)) (s : Subtrees) : Type 0 where
  pub count : length (tree_roots s) ≡ length nodes
  pub below : (top n : ℕ) → n < length nodes → (is_at_or_below s top n ≡ true ↔ IsAtOrBelow nodes top n)
  pub root : (n r : ℕ) → slice_get (tree_roots s) n ≡ Some r → IsRoot nodes r × IsAtOrBelow nodes r n
  pub one_root : (top n : ℕ) → n < length nodes → IsAtOrBelow nodes top n → slice_get (tree_roots s) top ≡ slice_get (tree_roots s) n
