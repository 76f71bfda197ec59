-- What is wrong in a document with one more item is what was, and what is wrong with the item.
use Rattle.std.proofs.Common.{◌≡◌, ℕ, List, [], ◌∷◌, ◌++◌, true, codes, Option, Some, None, refl, sym, ◌∙◌, ap, subst}
use Rattle.std.proofs.lemmas.List.{append-nil}
use Rattle.gltf_base.specs.Lists.{ListName}
use Rattle.gltf_base.specs.Steps.{Step, field, item}
use Rattle.gltf_schema.specs.Tree as tree
use Rattle.gltf_schema.specs.Tree.{Tree, absent, Trees, end, with_tree, tree_at, tree_or_absent, count_of}
use Rattle.gltf_schema.specs.Defaults.{defaults}
use Rattle.gltf_schema.specs.Fields.{closed_object}
use Rattle.gltf_schema.specs.Kind.{required, Kind, ListOf, no_rows, row}
use Rattle.gltf_scene.specs.Light.{light_kind, variant_kind}
use Rattle.gltf_root.specs.Lists.{lights_name, variants_name, lights_way, variants_way, further_way, list_in, count_in, row_of}
use Rattle.gltf_root.specs.Named.{row_named, member_named, put_at}
use Rattle.gltf_root.specs.Pushed.{with_last, pushed, list_steps, item_place, item_kind}
use Rattle.gltf_root.specs.RootExtension.{lights_rows, lights_kind, variants_rows, variants_kind, root_extension_rows, root_extensions_kind, root_extensions, root_extension_members, lights_members, variants_members}
use Rattle.gltf_root.specs.Root.{root_rows, root_kind, root_members, root_tree}
use Rattle.gltf_root.specs.RootDerived.{root_sound}
use Rattle.gltf_root.specs.declared.root.Root.{Root}
use Rattle.gltf_root.specs.declared.extensions.root.Root.{Root as RootExtensions}
use Rattle.gltf_root.specs.declared.extensions.root.KhrLightsPunctual.{KhrLightsPunctual}
use Rattle.gltf_root.specs.declared.extensions.root.KhrMaterialsVariants.{KhrMaterialsVariants}
use Rattle.gltf_validation_rules.specs.Context.{Rules, Context, under}
use Rattle.gltf_validation_rules.specs.Inserted.{IsInserted}
use Rattle.gltf_validation_rules.specs.Naming.{Avoids}
use Rattle.gltf_validation_rules.specs.Reports.{document_reports, reports, member_reports, reports_by_rules}
use Rattle.gltf_validation_rules.specs.Rules.{root_rule}
use Rattle.gltf_validation_rules.proofs.LongerLists.{list_by, with_item, grows}
use Rattle.gltf_validation_rules.proofs.Pushes.{reports_same}
use Rattle.gltf_validation_rules.proofs.CleanIsClosed.{clean_is_closed}
use Rattle.gltf_validation_rules.proofs.TwoParts.{first_none, second_none}
use Rattle.gltf_validation_rules.proofs.ClosedAvoids.{closed_avoids}
use Rattle.gltf_validation_rules.proofs.Inserting.{ahead, list_inserted, name_at, kind_at, are_at, member_inserted}

-- ---- the lists in the extensions

-- a list that is all of an extension object
one_inserted : (name : List ℕ) (kind : Kind) (ts : Trees) (x : Tree) (context : Context) (base : List Step)
    → IsInserted (member_reports (with_tree (tree.list ts) end) (row name required (ListOf kind) no_rows) context absent base ++ [])
    (reports kind x context absent ((base ++ field name ∷ []) ++ item (count_of ts) ∷ []))
    (member_reports (with_tree (tree.list (with_last x ts)) end) (row name required (ListOf kind) no_rows) context absent base ++ [])
one_inserted name kind ts x context base = ahead [] (ahead [] (list_inserted kind ts x context absent (base ++ field name ∷ [])))

lights_inserted : (x : Tree) (context : Context) (base : List Step) (found : Option KhrLightsPunctual)
    → IsInserted (reports lights_kind (tree_or_absent (λ v. closed_object (lights_members v)) found) context absent base)
    (reports light_kind x context absent ((base ++ field (codes "lights") ∷ []) ++ item (count_of (list_by lights_way (tree_or_absent (λ v. closed_object (lights_members v)) found))) ∷ []))
    (reports lights_kind (with_item lights_way x (tree_or_absent (λ v. closed_object (lights_members v)) found)) context absent base)
unfolding lights_rows lights_members
lights_inserted x context base None = one_inserted (codes "lights") light_kind end x context base
lights_inserted x context base (Some v) = one_inserted (codes "lights") light_kind (list_by lights_way (closed_object (lights_members v))) x context base

variants_inserted : (x : Tree) (context : Context) (base : List Step) (found : Option KhrMaterialsVariants)
    → IsInserted (reports variants_kind (tree_or_absent (λ v. closed_object (variants_members v)) found) context absent base)
    (reports variant_kind x context absent ((base ++ field (codes "variants") ∷ []) ++ item (count_of (list_by variants_way (tree_or_absent (λ v. closed_object (variants_members v)) found))) ∷ []))
    (reports variants_kind (with_item variants_way x (tree_or_absent (λ v. closed_object (variants_members v)) found)) context absent base)
unfolding variants_rows variants_members
variants_inserted x context base None = one_inserted (codes "variants") variant_kind end x context base
variants_inserted x context base (Some v) = one_inserted (codes "variants") variant_kind (list_by variants_way (closed_object (variants_members v))) x context base

lights_pushed : (x : Tree) (context : Context) (found : Option RootExtensions)
    → IsInserted (reports root_extensions_kind (tree_or_absent root_extensions found) context absent (field (codes "extensions") ∷ []))
    (reports light_kind x context absent (item_place ListName.lights (count_of (list_by (further_way ListName.lights) (tree_or_absent root_extensions found)))))
    (reports root_extensions_kind (with_item (further_way ListName.lights) x (tree_or_absent root_extensions found)) context absent (field (codes "extensions") ∷ []))
unfolding root_extension_members root_extension_rows
lights_pushed x context None =
    ahead [] (member_inserted (row_named lights_name root_extension_rows) (defaults root_extension_rows) root_extension_rows (with_item lights_way x absent) context absent (field (codes "extensions") ∷ []) _ refl
    (lights_inserted x context (field (codes "extensions") ∷ field (codes "KHR_lights_punctual") ∷ []) None))
lights_pushed x context (Some e) =
    ahead [] (member_inserted (row_named lights_name root_extension_rows) (root_extension_members e) root_extension_rows (with_item lights_way x (member_named lights_name root_extension_rows (root_extension_members e))) context absent (field (codes "extensions") ∷ []) _ refl
    (lights_inserted x context (field (codes "extensions") ∷ field (codes "KHR_lights_punctual") ∷ []) e.khr_lights_punctual))

variants_pushed : (x : Tree) (context : Context) (found : Option RootExtensions)
    → IsInserted (reports root_extensions_kind (tree_or_absent root_extensions found) context absent (field (codes "extensions") ∷ []))
    (reports variant_kind x context absent (item_place ListName.variants (count_of (list_by (further_way ListName.variants) (tree_or_absent root_extensions found)))))
    (reports root_extensions_kind (with_item (further_way ListName.variants) x (tree_or_absent root_extensions found)) context absent (field (codes "extensions") ∷ []))
unfolding root_extension_members root_extension_rows
variants_pushed x context None =
    ahead [] (member_inserted (row_named variants_name root_extension_rows) (defaults root_extension_rows) root_extension_rows (with_item variants_way x absent) context absent (field (codes "extensions") ∷ []) _ refl
    (variants_inserted x context (field (codes "extensions") ∷ field (codes "KHR_materials_variants") ∷ []) None))
variants_pushed x context (Some e) =
    ahead [] (member_inserted (row_named variants_name root_extension_rows) (root_extension_members e) root_extension_rows (with_item variants_way x (member_named variants_name root_extension_rows (root_extension_members e))) context absent (field (codes "extensions") ∷ []) _ refl
    (variants_inserted x context (field (codes "extensions") ∷ field (codes "KHR_materials_variants") ∷ []) e.khr_materials_variants))

-- ---- any list of a document

-- the reports of a member of a document, as it was or is now, against a document
abbrev MemberInserted : ListName → Tree → Root → Context → Type 0
MemberInserted named x r context =
    let n = row_of named in
    let t = tree_at n (root_members r) in
    let base = field (name_at n root_rows) ∷ [] in
    IsInserted (reports (kind_at n root_rows) t context absent base) (reports (item_kind named) x context absent (item_place named (count_in named (root_tree r)))) (reports (kind_at n root_rows) (with_item (further_way named) x t) context absent base)

in_row : (named : ListName) (x : Tree) (r : Root) (context : Context) → MemberInserted named x r context
unfolding root_rows root_members
in_row ListName.lights x r context = lights_pushed x context r.extensions
in_row ListName.variants x r context = variants_pushed x context r.extensions
in_row named x r context = list_inserted (item_kind named) (list_in named (root_tree r)) x context absent (list_steps named)

row_there : (named : ListName) (r : Root) → are_at (row_of named) (root_members r) root_rows ≡ true
unfolding root_rows root_members
row_there ListName.accessors r = refl
row_there named r = refl

-- the rule of documents looks at no list of items
rule_kept : (enabled : List (List ℕ)) (named : ListName) (x : Tree) (r : Root) (base : List Step)
    → root_rule enabled (put_at (row_of named) x (root_members r)) base ≡ root_rule enabled (root_members r) base
unfolding root_rows root_members
rule_kept enabled ListName.accessors x r base = refl
rule_kept enabled named x r base = refl

-- the reports of a document with one more item, against any document
root_inserted : (named : ListName) (x : Tree) (r : Root) (context : Context)
    → IsInserted (reports root_kind (root_tree r) context absent []) (reports (item_kind named) x context absent (item_place named (count_in named (root_tree r))))
    (reports root_kind (pushed named x (root_tree r)) context absent [])
root_inserted named x r context =
    let n = row_of named in
    let ms = root_members r in
    let t = with_item (further_way named) x (tree_at n ms) in
    let new = reports (item_kind named) x context absent (item_place named (count_in named (root_tree r))) in
    let rule = root_rule context.rules.enabled in
    subst (λ rs. IsInserted (member_reports ms root_rows context absent [] ++ rule ms []) new (member_reports (put_at n t ms) root_rows context absent [] ++ rs))
    (sym (rule_kept context.rules.enabled named t r []))
    (ahead (rule ms []) (member_inserted n ms root_rows t context absent [] new (row_there named r) (in_row named x r context)))

-- and against itself, where no index names the item before it is there
pub inserted : (rules : Rules) (named : ListName) (x : Tree) (r : Root) → Avoids named (count_in named (root_tree r)) root_kind (root_tree r)
    → IsInserted (document_reports rules (root_tree r))
    (reports_by_rules rules (item_kind named) x (pushed named x (root_tree r)) (item_place named (count_in named (root_tree r))))
    (document_reports rules (pushed named x (root_tree r)))
inserted rules named x r off =
    let old = root_tree r in
    let new = pushed named x old in
    let at = reports_by_rules rules (item_kind named) x new (item_place named (count_in named old)) in
    subst (λ rs. IsInserted rs at (document_reports rules new)) (reports_same rules named x old new (grows named x r) root_kind old absent absent [] (λ is. root_sound) off)
    (root_inserted named x r (under rules new))

-- ---- onto a document without reports

-- no index in it is the number that an item takes
pub clean_avoids : (rules : Rules) (named : ListName) (r : Root) → document_reports rules (root_tree r) ≡ []
    → Avoids named (count_in named (root_tree r)) root_kind (root_tree r)
clean_avoids rules named r clean =
    let old = root_tree r in
    let context = under rules old in
    closed_avoids named context root_kind old (clean_is_closed context root_kind old absent [] clean)

alone : {A : Type 0} {old new whole : List A} → old ≡ [] → IsInserted old new whole → whole ≡ new
alone {A} {old} {new} {whole} none h =
    let nothing = sym h.was ∙ none in
    h.now ∙ ap (λ zs. zs ++ (new ++ h.after)) (first_none h.before h.after nothing) ∙ ap (λ zs. new ++ zs) (second_none h.before h.after nothing) ∙ append-nil new

pub onto_clean : (rules : Rules) (named : ListName) (x : Tree) (r : Root) → document_reports rules (root_tree r) ≡ []
    → document_reports rules (pushed named x (root_tree r))
    ≡ reports_by_rules rules (item_kind named) x (pushed named x (root_tree r)) (item_place named (count_in named (root_tree r)))
onto_clean rules named x r clean = alone clean (inserted rules named x r (clean_avoids rules named r clean))
