-- The last item of a list, taken out of a document and put back.
use Rattle.std.proofs.Common.{◌≡◌, List, [], ◌∷◌, ◌++◌, true, map, Option, Some, None, Result, Ok, Err, refl, sym, ◌∙◌, ap, subst}
use Rattle.gltf_base.specs.Lists.{ListName}
use Rattle.gltf_base.specs.declared.validation.Error.{Error}
use Rattle.gltf_schema.specs.Fields.{list_tree}
use Rattle.gltf_schema.specs.Tree.{Tree, Trees, list, trees, with_tree}
use Rattle.gltf_root.specs.Lists.{is_there, list_in}
use Rattle.gltf_root.specs.Pushed.{pushed, with_last, with_list}
use Rattle.gltf_root.specs.Root.{root_tree}
use Rattle.gltf_root.specs.Undone.{without_last, without_last_item}
use Rattle.gltf_root.specs.declared.root.Root.{Root}
use Rattle.gltf_root.proofs.Undoing.{trees_pop}
use Rattle.gltf_validation_rules.specs.Context.{Rules}
use Rattle.gltf_validation.specs.Clean.{IsClean}
use Rattle.gltf_validation.specs.TakenBack.{IsTakenBack}
use Rattle.gltf_validation.proofs.Replacing.{list_put, put_itself}

-- a document whose list lacks the last item
pub popped : {X : Type 0} (tree : X → Tree) (named : ListName) (xs ys : List X) (x : X) (root mid : Tree)
    → list_in named root ≡ trees (map tree xs) → xs ≡ ys ++ x ∷ [] → mid ≡ with_list named (trees (map tree ys)) root → mid ≡ without_last_item named root
popped tree named xs ys x root mid stands less put =
    put ∙ ap (λ ts. with_list named ts root) (sym (ap without_last (stands ∙ ap (λ l. trees (map tree l)) less) ∙ trees_pop tree ys x))

-- a document whose list was put back
pub put_back_last : {X : Type 0} (tree : X → Tree) (named : ListName) (xs ys zs : List X) (r : Root) (mid new : Tree)
    → is_there named (root_tree r) ≡ true → list_in named (root_tree r) ≡ trees (map tree xs) → mid ≡ with_list named (trees (map tree ys)) (root_tree r)
    → new ≡ with_list named (trees (map tree zs)) mid → zs ≡ xs → new ≡ root_tree r
put_back_last tree named xs ys zs r mid new there stands out back same =
    back ∙ ap (with_list named (trees (map tree zs))) out ∙ (list_put r named (trees (map tree ys)) (trees (map tree zs))).1
    ∙ ap (λ l. with_list named (trees (map tree l)) (root_tree r)) same ∙ ap (λ ts. with_list named ts (root_tree r)) (sym stands) ∙ put_itself r named there

-- the trees of a list with an item at its end
trees_push : {X : Type 0} (tree : X → Tree) (xs : List X) (x : X) → with_last (tree x) (trees (map tree xs)) ≡ trees (map tree (xs ++ x ∷ []))
trees_push tree [] x = refl
trees_push tree (y ∷ xs) x = ap (with_tree (tree y)) (trees_push tree xs x)

-- a document whose list lacks the last item, with that item pushed again
pub pushed_back : {X : Type 0} (tree : X → Tree) (named : ListName) (xs ys : List X) (x : X) (r : Root) (mid : Tree)
    → is_there named (root_tree r) ≡ true → list_in named (root_tree r) ≡ trees (map tree xs) → list_in named mid ≡ trees (map tree ys)
    → mid ≡ with_list named (trees (map tree ys)) (root_tree r) → xs ≡ ys ++ x ∷ [] → pushed named (tree x) mid ≡ root_tree r
pushed_back tree named xs ys x r mid there stands left out less =
    put_back_last tree named xs ys (ys ++ x ∷ []) r mid (pushed named (tree x) mid) there stands out
    (ap (λ ts. with_list named ts mid) (ap (with_last (tree x)) left ∙ trees_push tree ys x)) (sym less)

map_same : {X : Type 0} (f g : X → Tree) (xs : List X) → ((x : X) → f x ≡ g x) → map f xs ≡ map g xs
map_same f g [] each = refl
map_same f g (x ∷ xs) each = ap (λ t. t ∷ map f xs) (each x) ∙ ap (λ ts. g x ∷ ts) (map_same f g xs each)

-- a list of items, and the trees that a document lists
pub list_same : {X : Type 0} (f g : X → Tree) (xs ys : List X) (ts : Trees) → ((x : X) → f x ≡ g x) → xs ≡ ys → ts ≡ trees (map g ys) → list_tree f xs ≡ list ts
list_same f g xs ys ts each same stands =
    ap (λ l. list (trees l)) (map_same f g xs each ∙ ap (map g) same) ∙ ap list (sym stands)

-- what is taken back leaves no report
pub still_clean : {X : Type 0} (rules : Rules) (named : ListName) (items : List X) (old : Tree) (result : Result (Option X) Error) (new : Tree)
    → IsClean rules old → IsTakenBack rules named items old result new → IsClean rules new
still_clean rules named items old (Ok None) new clean h = subst (IsClean rules) (sym h.1) clean
still_clean rules named items old (Ok (Some item)) new clean h = subst (IsClean rules) (sym h.2) h.1
still_clean rules named items old (Err error) new clean h = subst (IsClean rules) (sym h.1) clean
