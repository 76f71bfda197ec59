-- An item in the place of another, and that one put back.
use Rattle.std.proofs.Common.{◌≡◌, ◌↔◌, ◌<◌, ◌≤◌, ℕ, zero, suc, List, [], ◌∷◌, Bool, true, false, not, map, length, slice_get, Option, Some, None, Result, Ok, Err, refl, sym, ◌∙◌, ap, subst, arith}
use Rattle.std.specs.Prelude.{slice_set}
use Rattle.std.proofs.lemmas.Grind.{common_steps}
use Rattle.std.proofs.lemmas.Option.{none-some, same_Some, slice_get_within}
use Rattle.gltf_base.specs.Lists.{ListName}
use Rattle.gltf_schema.specs.Fields.{closed_object}
use Rattle.gltf_schema.specs.Tree.{Tree, Trees, absent, end, is_absent, items_in, tree_at, tree_or_absent, trees, with_tree}
use Rattle.gltf_root.specs.Lists.{count_in, extension_in, extensions_name, is_there, lights_name, lights_way, list_in, variants_name, variants_way}
use Rattle.gltf_root.specs.Named.{put_at, put_named, reached}
use Rattle.gltf_root.specs.Pushed.{with_list}
use Rattle.gltf_root.specs.Root.{root_members, root_rows, root_tree}
use Rattle.gltf_root.specs.RootExtension.{lights_members, lights_rows, root_extension_members, root_extension_rows, root_extensions, variants_members, variants_rows}
use Rattle.gltf_root.specs.declared.root.Root.{Root}
use Rattle.gltf_root.specs.declared.extensions.root.Root.{Root as RootExtensions}
use Rattle.gltf_root.specs.declared.extensions.root.KhrLightsPunctual.{KhrLightsPunctual}
use Rattle.gltf_root.specs.declared.extensions.root.KhrMaterialsVariants.{KhrMaterialsVariants}
use Rattle.gltf_validation_rules.specs.Context.{Rules}
use Rattle.gltf_validation_rules.proofs.Resolving.{count_in-items}
use Rattle.gltf_validation.specs.Clean.{IsClean}
use Rattle.gltf_validation.specs.Replaced.{IsReplaced, IsSwapped, IsSwappedAt, replaced}
use Rattle.gltf_validation.specs.declared.refused.Refused.{Refused}
use Rattle.gltf_validation.specs.declared.refused.Refused.TheVariants.{Full, Memory, NoItem, Faulty}

-- ---- lists of items and their trees

pub trees_set : {X : Type 0} (tree : X → Tree) (xs : List X) (n : ℕ) (x : X) → trees (map tree (slice_set xs n x)) ≡ put_at n (tree x) (trees (map tree xs))
trees_set tree [] zero x = refl
trees_set tree [] (suc n) x = refl
trees_set tree (y ∷ xs) zero x = refl
trees_set tree (y ∷ xs) (suc n) x = ap (with_tree (tree y)) (trees_set tree xs n x)

pub tree_of_item : {X : Type 0} (tree : X → Tree) (xs : List X) (n : ℕ) (x : X) → slice_get xs n ≡ Some x → tree_at n (trees (map tree xs)) ≡ tree x
tree_of_item tree [] n x h = absurd cc
tree_of_item tree (y ∷ xs) zero x h = ap tree (same_Some y x h)
tree_of_item tree (y ∷ xs) (suc n) x h = tree_of_item tree xs n x h

pub item_set : {X : Type 0} (xs : List X) (n : ℕ) (x : X) → n < length xs → slice_get (slice_set xs n x) n ≡ Some x
item_set [] n x h = absurd (omega (arith, h))
item_set (y ∷ xs) zero x h = refl
item_set (y ∷ xs) (suc n) x h = item_set xs n x (omega (arith, h))

pub length_set : {X : Type 0} (xs : List X) (n : ℕ) (x : X) → length (slice_set xs n x) ≡ length xs
length_set xs n x = grind (arith, common_steps)

no_trees : {X : Type 0} (tree : X → Tree) (xs : List X) → trees (map tree xs) ≡ end → length xs ≡ 0
no_trees tree [] h = refl
no_trees tree (x ∷ xs) h = absurd cc

put_again : (n : ℕ) (x y : Tree) (ts : Trees) → put_at n y (put_at n x ts) ≡ put_at n y ts
put_again n x y end = refl
put_again zero x y (with_tree t ts) = refl
put_again (suc n) x y (with_tree t ts) = ap (with_tree t) (put_again n x y ts)

put_own : (n : ℕ) (ts : Trees) → put_at n (tree_at n ts) ts ≡ ts
put_own n end = refl
put_own zero (with_tree t ts) = refl
put_own (suc n) (with_tree t ts) = ap (with_tree t) (put_own n ts)

-- ---- a list that is put into a document

-- where a list is put into what a document has of extensions
abbrev extended : Root → Tree → Tree
extended r extensions = closed_object (put_named extensions_name root_rows extensions (root_members r))

-- what is put is there
abbrev pub IsPutThere : ListName → Trees → Tree → Type 0
IsPutThere named ts root = list_in named (with_list named ts root) ≡ ts

-- what was put before is gone
abbrev pub IsPutAgain : ListName → Trees → Trees → Tree → Type 0
IsPutAgain named ts us root = with_list named us (with_list named ts root) ≡ with_list named us root

-- the list that is there changes nothing
abbrev pub IsPutItself : ListName → Tree → Type 0
IsPutItself named root = is_there named root ≡ true → with_list named (list_in named root) root ≡ root

-- all three
abbrev pub IsPut : ListName → Trees → Trees → Tree → Type 0
IsPut named ts us root = IsPutThere named ts root × IsPutAgain named ts us root × IsPutItself named root

lights_put : (r : Root) (ts us : Trees) (e : RootExtensions) (found : Option KhrLightsPunctual)
    → IsPut ListName.lights ts us (extended r (root_extensions (record e { khr_lights_punctual = found })))
unfolding root_rows root_members root_extension_rows root_extension_members lights_rows lights_members
lights_put r ts us e None = (refl, refl, λ there. absurd cc)
lights_put r ts us e (Some found) = (refl, refl, λ there. refl)

variants_put : (r : Root) (ts us : Trees) (e : RootExtensions) (found : Option KhrMaterialsVariants)
    → IsPut ListName.variants ts us (extended r (root_extensions (record e { khr_materials_variants = found })))
unfolding root_rows root_members root_extension_rows root_extension_members variants_rows variants_members
variants_put r ts us e None = (refl, refl, λ there. absurd cc)
variants_put r ts us e (Some found) = (refl, refl, λ there. refl)

of_lights : (r : Root) (ts us : Trees) (found : Option RootExtensions) → IsPut ListName.lights ts us (extended r (tree_or_absent root_extensions found))
unfolding root_rows root_members root_extension_rows lights_rows
of_lights r ts us None = (refl, refl, λ there. absurd cc)
of_lights r ts us (Some e) = lights_put r ts us e e.khr_lights_punctual

of_variants : (r : Root) (ts us : Trees) (found : Option RootExtensions) → IsPut ListName.variants ts us (extended r (tree_or_absent root_extensions found))
unfolding root_rows root_members root_extension_rows variants_rows
of_variants r ts us None = (refl, refl, λ there. absurd cc)
of_variants r ts us (Some e) = variants_put r ts us e e.khr_materials_variants

pub list_put : (r : Root) (named : ListName) (ts us : Trees) → IsPut named ts us (root_tree r)
unfolding root_rows root_members
list_put r ListName.lights ts us = of_lights r ts us r.extensions
list_put r ListName.variants ts us = of_variants r ts us r.extensions
list_put r named ts us = (refl, refl, λ there. refl)

-- ---- an item that is put back

-- a document in which an item is put back is the one that had it
pub put_back : (r : Root) (named : ListName) (n : ℕ) (x y : Tree) → is_there named (root_tree r) ≡ true → tree_at n (list_in named (root_tree r)) ≡ y
    → replaced named n y (replaced named n x (root_tree r)) ≡ root_tree r
put_back r named n x y there own =
    let root = root_tree r in
    let ts = put_at n x (list_in named root) in
    let us = put_at n y ts in
    let put = list_put r named ts us in
    ap (λ vs. with_list named (put_at n y vs) (with_list named ts root)) put.0 ∙ put.1
    ∙ ap (λ vs. with_list named vs root) (put_again n x y (list_in named root) ∙ ap (λ t. put_at n t (list_in named root)) (sym own) ∙ put_own n (list_in named root))
    ∙ put.2 there

-- ---- a list whose extension object is missing

absent_tree : (t : Tree) → not (is_absent t) ≡ false → t ≡ absent
absent_tree absent gone = refl
absent_tree t gone = absurd cc

pub not_there : {X : Type 0} (tree : X → Tree) (named : ListName) (root : Tree) (xs : List X) → is_there named root ≡ false → list_in named root ≡ trees (map tree xs) → length xs ≡ 0
not_there tree ListName.lights root xs gone stands =
    no_trees tree xs (sym stands ∙ ap (λ t. items_in (reached lights_way t)) (absent_tree (extension_in lights_name root) gone))
not_there tree ListName.variants root xs gone stands =
    no_trees tree xs (sym stands ∙ ap (λ t. items_in (reached variants_way t)) (absent_tree (extension_in variants_name root) gone))
not_there tree named root xs gone stands = absurd cc

pub put_itself : (r : Root) (named : ListName) → is_there named (root_tree r) ≡ true → with_list named (list_in named (root_tree r)) (root_tree r) ≡ root_tree r
put_itself r named = (list_put r named end end).2

-- a list that is lent is there
pub lent_there : {A : Type 0} (o : Option A) (x : A) (b : Bool) → o ≡ Some x → ((o ≡ None) ↔ (b ≡ false)) → b ≡ true
lent_there o x true is missing = refl
lent_there o x false is missing = absurd (none-some x (sym (missing.1 refl) ∙ is))

-- a list of a document, lent to have an item swapped
pub swapped : {X : Type 0} (tree : X → Tree) (named : ListName) (n : ℕ) (item : X) (xs lent_list ys new_items : List X) (result : Result X X) (root new : Tree)
    → is_there named root ≡ true → list_in named root ≡ trees (map tree xs) → with_list named (list_in named root) root ≡ root
    → lent_list ≡ xs → IsSwappedAt n item lent_list result ys → new_items ≡ ys → new ≡ with_list named (trees (map tree ys)) root
    → IsSwapped named tree n item xs root result new_items new
swapped tree named n item xs lent_list ys new_items (Ok was) root new there stands itself lent h kept put = (
  ap (λ l. slice_get l n) (sym lent) ∙ h.0,
  kept ∙ h.1 ∙ ap (λ l. slice_set l n item) lent,
  there,
  put ∙ ap (λ ts. with_list named ts root)
      (ap (λ l. trees (map tree l)) (h.1 ∙ ap (λ l. slice_set l n item) lent) ∙ trees_set tree xs n item ∙ ap (put_at n (tree item)) (sym stands)),
)
swapped tree named n item xs lent_list ys new_items (Err back) root new there stands itself lent h kept put = (
  subst (λ l. length l ≤ n) lent h.0,
  h.1,
  put ∙ ap (λ ts. with_list named ts root) (ap (λ l. trees (map tree l)) (h.2 ∙ lent) ∙ sym stands) ∙ itself,
)

-- an item that is in a list of a document is below its length
pub was_there : {X : Type 0} (tree : X → Tree) (named : ListName) (n : ℕ) (was : X) (xs : List X) (root : Tree)
    → list_in named root ≡ trees (map tree xs) → slice_get xs n ≡ Some was → n < count_in named root
was_there tree named n was xs root stands found = subst (λ m. n < m) (sym (count_in-items named root tree xs stands)) (slice_get_within xs n was found)

-- an item that is put back where another was, and the document that had the other
pub swapped_back : {X : Type 0} (tree : X → Tree) (named : ListName) (n : ℕ) (item was back : X) (xs mid_items : List X) (r : Root) (mid new : Tree)
    → list_in named (root_tree r) ≡ trees (map tree xs) → IsSwapped named tree n item xs (root_tree r) (Ok was) mid_items mid
    → slice_get mid_items n ≡ Some back → new ≡ replaced named n (tree was) mid
    → (n < count_in named (root_tree r)) × (mid ≡ replaced named n (tree item) (root_tree r)) × (back ≡ item) × (new ≡ root_tree r)
swapped_back tree named n item was back xs mid_items r mid new stands h found is = (
  was_there tree named n was xs (root_tree r) stands h.0,
  h.3,
  sym (same_Some item back (sym (ap (λ l. slice_get l n) h.1 ∙ item_set xs n item (slice_get_within xs n was h.0)) ∙ found)),
  is ∙ ap (replaced named n (tree was)) h.3
      ∙ put_back r named n (tree item) (tree was) h.2 (ap (tree_at n) stands ∙ tree_of_item tree xs n was h.0),
)

-- ---- what replacing leaves

pub stays_clean : {X : Type 0} (rules : Rules) (named : ListName) (n : ℕ) (item : X) (x old : Tree) (result : Result X (Refused X)) (new : Tree)
    → IsClean rules old → IsReplaced rules named n item x old result new → IsClean rules new
stays_clean rules named n item x old (Ok was) new clean h = subst (IsClean rules) (sym h.2) h.1
stays_clean rules named n item x old (Err (NoItem back)) new clean h = subst (IsClean rules) (sym h.2) clean
stays_clean rules named n item x old (Err (Faulty back report)) new clean h = subst (IsClean rules) (sym h.3) clean
stays_clean rules named n item x old (Err (Memory back)) new clean h = subst (IsClean rules) (sym h.3) clean
stays_clean rules named n item x old (Err (Full back)) new clean h = absurd h
