-- The reports of a tree are the faults of its places.
use Rattle.std.proofs.Common.{◌≡◌, ℕ, suc, Bool, List, [], ◌∷◌, ◌++◌, refl, sym, ◌∙◌}
use Rattle.std.proofs.lemmas.Grind.{flat_map-append}
use Rattle.std.proofs.lemmas.List.{append-nil}
use Rattle.std.specs.List.{flat_map}
use Rattle.gltf_base.specs.Keys.{Key, key_text}
use Rattle.gltf_base.specs.Keys as keys
use Rattle.gltf_base.specs.Lists.{ListName}
use Rattle.gltf_base.specs.Steps.{Step, field, item, key}
use Rattle.gltf_schema.specs.Tree as tree
use Rattle.gltf_schema.specs.Tree.{Tree, absent, Trees, end, with_tree, items_in, members_in, entries_in}
use Rattle.gltf_schema.specs.Kind.{Kind, IndexInto, Attributes, ListOf, Object, Rows, no_rows, row, Rule}
use Rattle.gltf_root.specs.Lists.{count_in}
use Rattle.gltf_validation_rules.specs.Report.{From}
use Rattle.gltf_validation_rules.specs.Context.{Rules, Context, under}
use Rattle.gltf_validation_rules.specs.Faults.{choice_faults, key_faults, entries_faults, items_reports}
use Rattle.gltf_validation_rules.specs.Rules.{object_faults}
use Rattle.gltf_validation_rules.specs.Reports.{animation_below, reports, member_reports, reports_by_rules}
use Rattle.gltf_validation_rules.specs.Places.{Place, place_of, object_place, key_kind, key_tree, entry_places, item_places, places, member_places, kind_faults, faults, reports_by_places}
use Rattle.gltf_validation_rules.proofs.TwoParts.{joined}

-- a leaf has one place, or none where nothing is wrong
leaf : (kind : Kind) (t : Tree) (context : Context) (animation : Tree) (base : List Step) → kind_faults kind absent context animation base ≡ []
    → flat_map (faults context) (place_of kind t animation base) ≡ kind_faults kind t context animation base
leaf kind absent context animation base none = sym none
leaf kind t context animation base none = append-nil _

-- a key is reported as a choice is
key_told : (k : Key) (base : List Step) → choice_faults (key_tree k) base ≡ key_faults k base
key_told keys.unknown base = refl
key_told k base = refl

entries_by_places : (named : ListName) (es : List (Key × ℕ)) (context : Context) (animation : Tree) (base : List Step)
    → flat_map (faults context) (entry_places named es animation base) ≡ entries_faults (count_in named context.root) es base
entries_by_places named [] context animation base = refl
entries_by_places named (e ∷ es) context animation base =
    let at = base ++ key (key_text e.0) ∷ [] in
    let first = place_of key_kind (key_tree e.0) animation at in
    let second = place_of (IndexInto named) (tree.index e.1) animation at in
    flat_map-append (faults context) (first ++ second) (entry_places named es animation base)
    ∙ joined
    (flat_map-append (faults context) first second
    ∙ joined (leaf key_kind (key_tree e.0) context animation at refl ∙ key_told e.0 at) (leaf (IndexInto named) (tree.index e.1) context animation at refl))
    (entries_by_places named es context animation base)

items_by_places : (context : Context) (f : Tree → List Step → List Place) (g : Tree → From) → ((t : Tree) (base : List Step) → flat_map (faults context) (f t base) ≡ g t base)
    → (i : ℕ) (ts : Trees) (base : List Step) → flat_map (faults context) (item_places f i ts base) ≡ items_reports g i ts base
items_by_places context f g each i end base = refl
items_by_places context f g each i (with_tree t ts) base =
    flat_map-append (faults context) (f t (base ++ item i ∷ [])) (item_places f (suc i) ts base)
    ∙ joined (each t (base ++ item i ∷ [])) (items_by_places context f g each (suc i) ts base)

own_place : (rule : Rule) (rows : Rows) (keeps : Bool) (t : Tree) (context : Context) (animation : Tree) (base : List Step)
    → flat_map (faults context) (object_place (Object rule rows keeps) t animation base) ≡ object_faults t rule context base
own_place rule rows keeps (tree.object ts others) context animation base = append-nil _
own_place rule rows keeps t context animation base = refl

mutual
  by_places : (kind : Kind) (t : Tree) (context : Context) (animation : Tree) (base : List Step) → flat_map (faults context) (places kind t animation base) ≡ reports kind t context animation base
  by_places (Attributes named) t context animation base = entries_by_places named (entries_in t) context animation base
  by_places (ListOf kind) t context animation base =
      items_by_places context (λ x. places kind x animation) (λ x. reports kind x context animation) (λ x at. by_places kind x context animation at) 0 (items_in t) base
  by_places (Object rule rows keeps) t context animation base =
      flat_map-append (faults context) (member_places (members_in t) rows (animation_below rule t animation) base) (object_place (Object rule rows keeps) t animation base)
      ∙ joined (members_by_places (members_in t) rows context (animation_below rule t animation) base) (own_place rule rows keeps t context animation base)
  by_places kind t context animation base = leaf kind t context animation base refl

  members_by_places : (ts : Trees) (rows : Rows) (context : Context) (animation : Tree) (base : List Step) → flat_map (faults context) (member_places ts rows animation base) ≡ member_reports ts rows context animation base
  members_by_places end rows context animation base = refl
  members_by_places (with_tree t ts) no_rows context animation base = refl
  members_by_places (with_tree t ts) (row n mark kind rows) context animation base =
      flat_map-append (faults context) (places kind t animation (base ++ field n ∷ [])) (member_places ts rows animation base)
      ∙ joined (by_places kind t context animation (base ++ field n ∷ [])) (members_by_places ts rows context animation base)

-- the law, for a value by itself
pub reports_are_by_places : (rules : Rules) (kind : Kind) (t root : Tree) (base : List Step) → reports_by_rules rules kind t root base ≡ reports_by_places rules kind t root base
reports_are_by_places rules kind t root base = sym (by_places kind t (under rules root) absent base)
