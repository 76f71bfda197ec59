-- The positions of a primitive: the accessor that an index names, and arrays that are no triple.
use Rattle.std.proofs.Common.{◌≡◌, ◌≢◌, ℕ, zero, suc, List, [], ◌∷◌, false, Option, Some, length, slice_get, map, refl, sym, ◌∙◌, ap}
use Rattle.serde_json.specs.Data.{Data, null, boolean, number, string, array, object}
use Rattle.serde_json.specs.Find.{as_array}
use Rattle.serde_json.specs.View.{items_view}
use Rattle.serde_json.specs.declared.value.Value.{Value}
use Rattle.gltf_base.specs.Lists.{ListName}
use Rattle.gltf_schema.specs.Fields.{closed_object}
use Rattle.gltf_schema.specs.Tree.{Tree, trees, tree_at, tree_or_absent}
use Rattle.gltf_parts.specs.Accessor.{accessor_members}
use Rattle.gltf_parts.specs.declared.accessor.Accessor.{Accessor}
use Rattle.gltf_root.specs.Lists.{list_in}
use Rattle.gltf_root.specs.Root.{root_rows, root_members, root_tree}
use Rattle.gltf_root.specs.declared.root.Root.{Root}
use Rattle.gltf_validation_rules.specs.Rules.{is_triple}

-- the tree at a number is that of the item there
tree_at-trees : {X : Type 0} (tree : X → Tree) (xs : List X) (n : ℕ) → tree_at n (trees (map tree xs)) ≡ tree_or_absent tree (slice_get xs n)
tree_at-trees tree [] n = refl
tree_at-trees tree (x ∷ xs) zero = refl
tree_at-trees tree (x ∷ xs) (suc n) = tree_at-trees tree xs n

-- the tree that an index of an accessor names
pub accessor_at : (r : Root) (n : ℕ) (found : Option Accessor) → found ≡ slice_get r.accessors.items n
    → tree_at n (list_in ListName.accessors (root_tree r)) ≡ tree_or_absent (λ x. closed_object (accessor_members x)) found
unfolding root_rows root_members
accessor_at r n found e =
    tree_at-trees (λ x. closed_object (accessor_members x)) r.accessors.items n ∙ ap (tree_or_absent (λ x. closed_object (accessor_members x))) (sym e)

not_three : (vs : List Value) → length vs ≢ 3 → is_triple (array (items_view vs)) ≡ false
not_three [] h = refl
not_three (x ∷ []) h = refl
not_three (x ∷ y ∷ []) h = refl
not_three (x ∷ y ∷ z ∷ []) h = absurd (h refl)
not_three (x ∷ y ∷ z ∷ w ∷ vs) h = refl

-- an array of more or fewer than three items is no triple
pub no_triple : (d : Data) (vs : List Value) → Some (items_view vs) ≡ as_array d → length vs ≢ 3 → false ≡ is_triple d
no_triple null vs e h = cc
no_triple (boolean b) vs e h = cc
no_triple (number x) vs e h = cc
no_triple (string s) vs e h = cc
no_triple (array ds) vs e h = let same : items_view vs ≡ ds = cc in sym (not_three vs h) ∙ ap (λ es. is_triple (array es)) same
no_triple (object ms) vs e h = cc
