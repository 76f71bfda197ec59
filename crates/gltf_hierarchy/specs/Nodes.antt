-- Nodes and their children (glTF 2.0, sections 3.5.2 and 5.25).
use Rattle.std.specs.Prelude.{◌≡◌, ℕ, zero, suc, List, [], get_or, slice_get, Some}

-- A hierarchy is a list of the numbers in `children` (5.25.2), for each node. A number is a place in this list.
abbrev pub children_of : List (List ℕ) → ℕ → List ℕ
children_of nodes n = get_or nodes n []

-- a node is the child at a place in the `children` of another
abbrev pub IsChildAt : List (List ℕ) → ℕ → ℕ → ℕ → Type 0
IsChildAt nodes parent place child = slice_get (children_of nodes parent) place ≡ Some child

-- so many steps down from a node is another
abbrev pub IsBelow : List (List ℕ) → ℕ → ℕ → ℕ → Type 0
IsBelow nodes zero n below = n ≡ below
IsBelow nodes (suc k) n below = (c : ℕ) × ((i : ℕ) × IsChildAt nodes n i c) × IsBelow nodes k c below
