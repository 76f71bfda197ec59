-- What is left of trees and of lists without the last one.
use Rattle.std.proofs.Common.{◌≡◌, List, [], ◌∷◌, ◌++◌, Option, Some, map, refl, ap}
use Rattle.std.specs.List.{last_or}
use Rattle.gltf_schema.specs.Tree.{Tree, Trees, end, with_tree, trees}
use Rattle.gltf_root.specs.Pushed.{with_last}
use Rattle.gltf_root.specs.Undone.{without_last}

-- a tree that is put behind others is the last one
pub without_last-with_last : (x : Tree) (ts : Trees) → without_last (with_last x ts) ≡ ts
without_last-with_last x end = refl
without_last-with_last x (with_tree t end) = refl
without_last-with_last x (with_tree t (with_tree u ts)) = ap (with_tree t) (without_last-with_last x (with_tree u ts))

-- the trees of a list without its last item
pub trees_pop : {X : Type 0} (tree : X → Tree) (xs : List X) (x : X)
    → without_last (trees (map tree (xs ++ x ∷ []))) ≡ trees (map tree xs)
trees_pop tree [] x = refl
trees_pop tree (y ∷ []) x = refl
trees_pop tree (y ∷ z ∷ xs) x = ap (with_tree (tree y)) (trees_pop tree (z ∷ xs) x)

-- the last item of a list is the one at its end
pub last_or_pop : {X : Type 0} (o : Option X) (xs : List X) (x : X) → last_or o (xs ++ x ∷ []) ≡ Some x
last_or_pop o [] x = refl
last_or_pop o (y ∷ xs) x = last_or_pop (Some y) xs x
