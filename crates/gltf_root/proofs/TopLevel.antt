-- A list that is put in place of a document's own, with one item more or less at its end.
use Rattle.std.proofs.Common.{◌≡◌, List, [], ◌∷◌, ◌++◌, map, Option, Some, None, IfSome, option_to_list, sym, ◌∙◌, ap}
use Rattle.std.specs.List.{last_or}
use Rattle.gltf_base.specs.Lists.{ListName}
use Rattle.gltf_schema.specs.Tree.{Tree, trees}
use Rattle.gltf_root.proofs.Pushing.{trees_push}
use Rattle.gltf_root.proofs.Undoing.{trees_pop, last_or_pop}
use Rattle.gltf_root.specs.Lists.{list_in}
use Rattle.gltf_root.specs.Pushed.{pushed, with_last, with_list}
use Rattle.gltf_root.specs.Undone.{undone, without_last, without_last_item}
use Rattle.gltf_root.specs.declared.root.mark.Mark.{Mark}

-- that a tree is a document of which a list was put in place
abbrev IsPut : {X : Type 0} → (X → Tree) → ListName → Tree → List X → Tree → Type 0
IsPut tree named root items new = new ≡ with_list named (trees (map tree items)) root

-- that a list of a document holds the trees of the items
abbrev Stands : {X : Type 0} → (X → Tree) → ListName → Tree → List X → Type 0
Stands tree named root items = list_in named root ≡ trees (map tree items)

pub one_more : {X : Type 0} (tree : X → Tree) (named : ListName) (root new : Tree) (before after : List X) (x : X)
    → Stands tree named root before → IsPut tree named root after new → after ≡ before ++ x ∷ [] → new ≡ pushed named (tree x) root
one_more tree named root new before after x stands put more =
    put ∙ ap (λ ts. with_list named ts root) (ap (λ xs. trees (map tree xs)) more ∙ trees_push tree before x ∙ ap (with_last (tree x)) (sym stands))

one_less : {X : Type 0} (tree : X → Tree) (named : ListName) (root new : Tree) (before after : List X) (x : X)
    → Stands tree named root before → IsPut tree named root after new → before ≡ after ++ x ∷ [] → new ≡ without_last_item named root
one_less tree named root new before after x stands put less =
    put ∙ ap (λ ts. with_list named ts root) (sym (ap without_last (stands ∙ ap (λ xs. trees (map tree xs)) less) ∙ trees_pop tree after x))

pub taken_out : {X : Type 0} (tree : X → Tree) (named : ListName) (mark : Mark) (root new : Tree) (before after : List X) (taken : Option X)
    → Stands tree named root before → IsPut tree named root after new → before ≡ after ++ option_to_list taken
    → undone named mark root ≡ without_last_item named root → IfSome taken (λ x. (last_or None before ≡ Some x) × (new ≡ undone named mark root))
taken_out tree named mark root new before after None stands put less is = tt
taken_out tree named mark root new before after (Some x) stands put less is =
    (ap (last_or None) less ∙ last_or_pop None after x, one_less tree named root new before after x stands put less ∙ sym is)
