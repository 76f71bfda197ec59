-- What is wrong in a document stands elsewhere than at the end of a list.
use Rattle.std.proofs.Common.{◌≡◌, ◌≤◌, ℕ, zero, suc, ◌+◌, List, [], ◌∷◌, ◌++◌, Bool, true, false, not, subst, ◌&&◌, codes, Option, Some, None, refl, sym, ◌∙◌, append_assoc, arith}
use Rattle.std.proofs.lemmas.Bool.{and_parts}
use Rattle.std.proofs.lemmas.List.{append_cancel_left}
use Rattle.std.proofs.lemmas.List.Elements.{All-nil, All-append}
use Rattle.std.proofs.lemmas.Slice.Eq.{bytes_eq-Decides}
use Rattle.std.specs.List.{All}
use Rattle.std.specs.Str.{bytes_eq}
use Rattle.gltf_base.specs.Lists.{ListName}
use Rattle.gltf_base.specs.Steps.{Step, field, item}
use Rattle.gltf_schema.specs.Tree as tree
use Rattle.gltf_schema.specs.Tree.{Tree, absent, Trees, end, with_tree, tree_at, tree_or_absent, count_of}
use Rattle.gltf_schema.specs.Fields.{closed_object}
use Rattle.gltf_schema.specs.Kind.{required, Kind, ListOf, Rows, no_rows, row}
use Rattle.gltf_scene.specs.Light.{light_kind, variant_kind}
use Rattle.gltf_root.specs.Lists.{lights_name, variants_name, lights_way, variants_way, further_way, list_in, count_in, row_of}
use Rattle.gltf_root.specs.Named.{row_named, way_steps}
use Rattle.gltf_root.specs.Pushed.{list_steps, item_place, item_kind}
use Rattle.gltf_root.specs.RootExtension.{lights_rows, lights_kind, variants_rows, variants_kind, root_extension_rows, root_extensions_kind, root_extensions, root_extension_members, lights_members, variants_members}
use Rattle.gltf_root.specs.Root.{root_rows, root_kind, root_members, root_tree}
use Rattle.gltf_root.specs.declared.root.Root.{Root}
use Rattle.gltf_root.specs.declared.extensions.root.Root.{Root as RootExtensions}
use Rattle.gltf_root.specs.declared.extensions.root.KhrLightsPunctual.{KhrLightsPunctual}
use Rattle.gltf_root.specs.declared.extensions.root.KhrMaterialsVariants.{KhrMaterialsVariants}
use Rattle.gltf_validation_rules.specs.Report.{From, Report}
use Rattle.gltf_validation_rules.specs.Context.{Context}
use Rattle.gltf_validation_rules.specs.Faults.{items_reports}
use Rattle.gltf_validation_rules.specs.Reports.{reports, member_reports}
use Rattle.gltf_validation_rules.specs.Rules.{root_rule}
use Rattle.gltf_validation_rules.proofs.LongerLists.{list_by}
use Rattle.gltf_validation_rules.proofs.Inserting.{name_at, kind_at}
use Rattle.gltf_validation_rules.proofs.FaultsBelow.{StandsBelow, AllBelow, reports_below, required_below}

abbrev pub StandsElsewhere : List Step → Report → Type 0
StandsElsewhere base r = StandsBelow base r → ⊥

abbrev pub AllElsewhere : List Step → List Report → Type 0
AllElsewhere path rs = All (StandsElsewhere path) rs

none_elsewhere : (path : List Step) → AllElsewhere path []
none_elsewhere path = All-nil (StandsElsewhere path)

both_elsewhere : (path : List Step) (rs qs : List Report) → AllElsewhere path rs → AllElsewhere path qs → AllElsewhere path (rs ++ qs)
both_elsewhere path rs qs = All-append (StandsElsewhere path) rs qs

first_step : (s u : Step) (a b : List Step) → s ∷ a ≡ u ∷ b → s ≡ u
first_step s u a b e = cc

-- what stands below one step stands elsewhere than below another
apart : (base : List Step) (s u : Step) (more : List Step) → (s ≡ u → ⊥) → (rs : List Report) → AllBelow (base ++ s ∷ []) rs → AllElsewhere (base ++ u ∷ more) rs
apart base s u more off rs below k d lt there =
    let here = below k d lt in
    let same = sym (append_assoc base (s ∷ []) here.0) ∙ sym here.1 ∙ there.1 ∙ append_assoc base (u ∷ more) there.0 in
    off (first_step s u here.0 (more ++ there.0) (append_cancel_left base (s ∷ here.0) (u ∷ (more ++ there.0)) same))

same_field : (f g : List ℕ) → field f ≡ field g → f ≡ g
same_field f g e = cc

same_item : (m n : ℕ) → item m ≡ item n → m ≡ n
same_item m n e = cc

other_field : (b : Bool) (f g : List ℕ) → bytes_eq f g ≡ b → not b ≡ true → field f ≡ field g → ⊥
other_field true f g is other e = cc
other_field false f g is other e = let same = (bytes_eq-Decides f g).1 (same_field f g e) in cc

-- ---- the members of an object

-- no row has the name
abbrev unnamed : List ℕ → Rows → Bool
unnamed f no_rows = true
unnamed f (row name mark kind rows) = not (bytes_eq name f) && unnamed f rows

-- no row has the name but that at the number
abbrev unnamed_but : ℕ → List ℕ → Rows → Bool
unnamed_but n f no_rows = true
unnamed_but zero f (row name mark kind rows) = unnamed f rows
unnamed_but (suc n) f (row name mark kind rows) = not (bytes_eq name f) && unnamed_but n f rows

module _ (context : Context) (above : Tree) (base : List Step) (f : List ℕ) (more : List Step) where
  row_elsewhere : (name : List ℕ) (kind : Kind) (t : Tree) → not (bytes_eq name f) ≡ true → AllElsewhere (base ++ field f ∷ more) (reports kind t context above (base ++ field name ∷ []))
  row_elsewhere name kind t other =
      apart base (field name) (field f) more (other_field (bytes_eq name f) name f refl other) (reports kind t context above (base ++ field name ∷ [])) (reports_below kind t context above (base ++ field name ∷ []))

  rows_elsewhere : (ts : Trees) (rows : Rows) → unnamed f rows ≡ true → AllElsewhere (base ++ field f ∷ more) (member_reports ts rows context above base)
  rows_elsewhere end rows off = none_elsewhere _
  rows_elsewhere (with_tree t ts) no_rows off = none_elsewhere _
  rows_elsewhere (with_tree t ts) (row name mark kind rows) off =
      let parts = and_parts (not (bytes_eq name f)) (unnamed f rows) off in
      both_elsewhere _ (reports kind t context above (base ++ field name ∷ [])) (member_reports ts rows context above base) (row_elsewhere name kind t parts.0) (rows_elsewhere ts rows parts.1)

  members_elsewhere : (n : ℕ) (ts : Trees) (rows : Rows) → unnamed_but n f rows ≡ true
      → AllElsewhere (base ++ field f ∷ more) (reports (kind_at n rows) (tree_at n ts) context above (base ++ field (name_at n rows) ∷ []))
      → AllElsewhere (base ++ field f ∷ more) (member_reports ts rows context above base)
  members_elsewhere n end rows off h = none_elsewhere _
  members_elsewhere n (with_tree t ts) no_rows off h = none_elsewhere _
  members_elsewhere zero (with_tree t ts) (row name mark kind rows) off h =
      both_elsewhere _ (reports kind t context above (base ++ field name ∷ [])) (member_reports ts rows context above base) h (rows_elsewhere ts rows off)
  members_elsewhere (suc n) (with_tree t ts) (row name mark kind rows) off h =
      let parts = and_parts (not (bytes_eq name f)) (unnamed_but n f rows) off in
      both_elsewhere _ (reports kind t context above (base ++ field name ∷ [])) (member_reports ts rows context above base) (row_elsewhere name kind t parts.0) (members_elsewhere n ts rows parts.1 h)

-- ---- the items of a list

items_elsewhere : (f : Tree → From) → ((t : Tree) (base : List Step) → AllBelow base (f t base)) → (i : ℕ) (ts : Trees) (base : List Step) (n : ℕ) → i + count_of ts ≤ n
    → AllElsewhere (base ++ item n ∷ []) (items_reports f i ts base)
items_elsewhere f each i end base n past = none_elsewhere _
items_elsewhere f each i (with_tree t ts) base n past =
    both_elsewhere _ (f t (base ++ item i ∷ [])) (items_reports f (suc i) ts base)
    (apart base (item i) (item n) [] (λ e. let same = same_item i n e in omega (arith, past, same)) (f t (base ++ item i ∷ [])) (each t (base ++ item i ∷ [])))
    (items_elsewhere f each (suc i) ts base n (omega (arith, past)))

list_elsewhere : (kind : Kind) (ts : Trees) (context : Context) (above : Tree) (base : List Step) → AllElsewhere (base ++ item (count_of ts) ∷ []) (reports (ListOf kind) (tree.list ts) context above base)
list_elsewhere kind ts context above base = items_elsewhere (λ t. reports kind t context above) (λ t at. reports_below kind t context above at) 0 ts base (count_of ts) (omega arith)

-- ---- the lists in the extensions

abbrev in_lights : List Step
in_lights = field (codes "extensions") ∷ field (codes "KHR_lights_punctual") ∷ []

abbrev in_variants : List Step
in_variants = field (codes "extensions") ∷ field (codes "KHR_materials_variants") ∷ []

abbrev in_extensions : List Step
in_extensions = field (codes "extensions") ∷ []

-- a list that is all of an extension object
one_elsewhere : (name : List ℕ) (kind : Kind) (ts : Trees) (context : Context) (base : List Step)
    → AllElsewhere ((base ++ field name ∷ []) ++ item (count_of ts) ∷ []) (member_reports (with_tree (tree.list ts) end) (row name required (ListOf kind) no_rows) context absent base ++ [])
one_elsewhere name kind ts context base =
    let at = base ++ field name ∷ [] in
    let path = at ++ item (count_of ts) ∷ [] in
    let rs = reports (ListOf kind) (tree.list ts) context absent at in
    both_elsewhere path (rs ++ []) [] (both_elsewhere path rs [] (list_elsewhere kind ts context absent at) (none_elsewhere path)) (none_elsewhere path)

lights_inside : (context : Context) (found : Option KhrLightsPunctual)
    → AllElsewhere (item_place ListName.lights (count_of (list_by lights_way (tree_or_absent (λ v. closed_object (lights_members v)) found))))
    (reports lights_kind (tree_or_absent (λ v. closed_object (lights_members v)) found) context absent in_lights)
unfolding lights_rows lights_members
lights_inside context None = none_elsewhere (item_place ListName.lights 0)
lights_inside context (Some v) = one_elsewhere (codes "lights") light_kind (list_by lights_way (closed_object (lights_members v))) context in_lights

variants_inside : (context : Context) (found : Option KhrMaterialsVariants)
    → AllElsewhere (item_place ListName.variants (count_of (list_by variants_way (tree_or_absent (λ v. closed_object (variants_members v)) found))))
    (reports variants_kind (tree_or_absent (λ v. closed_object (variants_members v)) found) context absent in_variants)
unfolding variants_rows variants_members
variants_inside context None = none_elsewhere (item_place ListName.variants 0)
variants_inside context (Some v) = one_elsewhere (codes "variants") variant_kind (list_by variants_way (closed_object (variants_members v))) context in_variants

lights_elsewhere : (context : Context) (found : Option RootExtensions)
    → AllElsewhere (item_place ListName.lights (count_of (list_by (further_way ListName.lights) (tree_or_absent root_extensions found))))
    (reports root_extensions_kind (tree_or_absent root_extensions found) context absent in_extensions)
unfolding root_extension_members root_extension_rows
lights_elsewhere context None = none_elsewhere (item_place ListName.lights 0)
lights_elsewhere context (Some e) =
    let n = count_of (list_by (further_way ListName.lights) (root_extensions e)) in
    let path = item_place ListName.lights n in
    both_elsewhere path (member_reports (root_extension_members e) root_extension_rows context absent in_extensions) []
    (members_elsewhere context absent in_extensions (codes "KHR_lights_punctual") (field (codes "lights") ∷ item n ∷ []) (row_named lights_name root_extension_rows) (root_extension_members e) root_extension_rows refl (lights_inside context e.khr_lights_punctual))
    (none_elsewhere path)

variants_elsewhere : (context : Context) (found : Option RootExtensions)
    → AllElsewhere (item_place ListName.variants (count_of (list_by (further_way ListName.variants) (tree_or_absent root_extensions found))))
    (reports root_extensions_kind (tree_or_absent root_extensions found) context absent in_extensions)
unfolding root_extension_members root_extension_rows
variants_elsewhere context None = none_elsewhere (item_place ListName.variants 0)
variants_elsewhere context (Some e) =
    let n = count_of (list_by (further_way ListName.variants) (root_extensions e)) in
    let path = item_place ListName.variants n in
    both_elsewhere path (member_reports (root_extension_members e) root_extension_rows context absent in_extensions) []
    (members_elsewhere context absent in_extensions (codes "KHR_materials_variants") (field (codes "variants") ∷ item n ∷ []) (row_named variants_name root_extension_rows) (root_extension_members e) root_extension_rows refl (variants_inside context e.khr_materials_variants))
    (none_elsewhere path)

-- ---- any list of a document

-- the steps behind the first one to an item
abbrev further_steps : ListName → ℕ → List Step
further_steps named n = way_steps (further_way named) ++ item n ∷ []

place_split : (named : ListName) (n : ℕ) → field (name_at (row_of named) root_rows) ∷ further_steps named n ≡ item_place named n
unfolding root_rows
place_split ListName.lights n = refl
place_split named n = refl

only_row : (named : ListName) → unnamed_but (row_of named) (name_at (row_of named) root_rows) root_rows ≡ true
unfolding root_rows
only_row ListName.lights = refl
only_row named = refl

own_elsewhere : (named : ListName) (r : Root) (context : Context) → AllElsewhere (item_place named (count_in named (root_tree r)))
    (reports (kind_at (row_of named) root_rows) (tree_at (row_of named) (root_members r)) context absent (field (name_at (row_of named) root_rows) ∷ []))
unfolding root_rows root_members
own_elsewhere ListName.lights r context = lights_elsewhere context r.extensions
own_elsewhere ListName.variants r context = variants_elsewhere context r.extensions
own_elsewhere named r context = list_elsewhere (item_kind named) (list_in named (root_tree r)) context absent (list_steps named)

-- what a document requires is no list of items
not_required : (named : ListName) → not (bytes_eq (codes "extensionsRequired") (name_at (row_of named) root_rows)) ≡ true
unfolding root_rows
not_required ListName.lights = refl
not_required named = refl

-- the law: nothing stands where the next item of a list will
pub root_elsewhere : (named : ListName) (r : Root) (context : Context) → AllElsewhere (item_place named (count_in named (root_tree r))) (reports root_kind (root_tree r) context absent [])
root_elsewhere named r context =
    let n = row_of named in
    let f = name_at n root_rows in
    let ms = root_members r in
    let more = further_steps named (count_in named (root_tree r)) in
    let split = place_split named (count_in named (root_tree r)) in
    subst (λ path. AllElsewhere path (reports root_kind (root_tree r) context absent [])) split
    (both_elsewhere (field f ∷ more) (member_reports ms root_rows context absent []) (root_rule context.rules.enabled ms [])
    (members_elsewhere context absent [] f more n ms root_rows (only_row named)
    (subst (λ path. AllElsewhere path (reports (kind_at n root_rows) (tree_at n ms) context absent (field f ∷ []))) (sym split) (own_elsewhere named r context)))
    (apart [] (field (codes "extensionsRequired")) (field f) more (other_field _ (codes "extensionsRequired") f refl (not_required named)) (root_rule context.rules.enabled ms []) (required_below context.rules.enabled ms [])))
