-- What an object is if some members are given.
use Rattle.std.specs.Prelude.{ℕ, List, [], ◌∷◌, cond, bytes_eq}
use Rattle.gltf_schema.specs.Tree.{Tree, Trees, end, with_tree}
use Rattle.gltf_schema.specs.Kind.{Rows, no_rows, row}
use Rattle.gltf_schema.specs.Defaults.{default_tree}

-- the tree that is given under a name, else another
abbrev pub given_or : Tree → List ℕ → List (List ℕ × Tree) → Tree
given_or t name [] = t
given_or t name (g ∷ gs) = cond (bytes_eq g.0 name) g.1 (given_or t name gs)

-- each row's member as it is given; the others are missing
abbrev pub with_defaults : Rows → List (List ℕ × Tree) → Trees
with_defaults no_rows gs = end
with_defaults (row name mark kind rows) gs = with_tree (given_or (default_tree mark) name gs) (with_defaults rows gs)
