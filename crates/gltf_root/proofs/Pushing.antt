-- Trees of a list with one more item.
use Rattle.std.proofs.Common.{◌≡◌, List, [], ◌∷◌, ◌++◌, map, refl, ap}
use Rattle.gltf_schema.specs.Tree.{Tree, with_tree, trees}
use Rattle.gltf_root.specs.Pushed.{with_last}

pub trees_push : {X : Type 0} (tree : X → Tree) (xs : List X) (x : X)
    → trees (map tree (xs ++ x ∷ [])) ≡ with_last (tree x) (trees (map tree xs))
trees_push tree [] x = refl
trees_push tree (y ∷ xs) x = ap (with_tree (tree y)) (trees_push tree xs x)
