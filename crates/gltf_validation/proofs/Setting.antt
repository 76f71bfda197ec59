-- A document without reports of which a member is set to one without reports.
use Rattle.std.proofs.Common.{◌≡◌, ◌<◌, inr, ℕ, zero, suc, List, [], ◌∷◌, ◌++◌, true, Option, Some, None, codes, length, refl, sym, ◌∙◌, ap, subst, arith}
use Rattle.std.proofs.lemmas.Bool.{lt-ltb}
use Rattle.std.specs.declared.alloc.Global.{Global}
use Rattle.std.specs.declared.vec.Vec.{Vec}
use Rattle.std.specs.Prelude.{String}
use Rattle.serde_json.specs.declared.value.Value.{Value}
use Rattle.gltf_base.specs.Indexes.{index_number}
use Rattle.gltf_base.specs.Lists.{ListName}
use Rattle.gltf_base.specs.Steps.{Step, field}
use Rattle.gltf_base.specs.declared.index.IndexTo.{IndexTo}
use Rattle.gltf_schema.specs.Fields.{any_tree, closed_object, index_tree, list_tree, text_tree}
use Rattle.gltf_schema.specs.Kind.{Kind, Any, IndexInto, ListOf, Rows, Text, no_rows, row}
use Rattle.gltf_schema.specs.Tree.{Tree, Trees, absent, end, tree_or_absent, with_tree}
use Rattle.gltf_scene.specs.Asset.{asset_kind, asset_members, asset_of_version, asset_rows}
use Rattle.gltf_scene.specs.AssetDerived.{asset_height}
use Rattle.gltf_root.specs.Lists.{count_in, list_in}
use Rattle.gltf_root.specs.Named.{put_at, row_named}
use Rattle.gltf_root.specs.Root.{root_kind, root_members, root_of_asset, root_rows, root_tree}
use Rattle.gltf_root.specs.RootDerived.{root_sound}
use Rattle.gltf_scene.specs.declared.asset.Asset.{Asset}
use Rattle.gltf_root.specs.declared.root.Root.{Root}
use Rattle.gltf_validation_rules.specs.Context.{Context, Rules, under}
use Rattle.gltf_validation_rules.specs.Reports.{reports, member_reports}
use Rattle.gltf_validation_rules.specs.Rules.{root_rule}
use Rattle.gltf_validation_rules.proofs.CleanIsClosed.{clean_is_closed}
use Rattle.gltf_validation_rules.proofs.ClosedAvoids.{closed_avoids}
use Rattle.gltf_validation_rules.proofs.Inserting.{kind_at, name_at}
use Rattle.gltf_validation_rules.proofs.TwoParts.{first_none, joined, second_none}
use Rattle.gltf_validation_rules.proofs.Pushes.{reports_same}
use Rattle.gltf_validation_rules.proofs.Resolving.{count_in-items}
use Rattle.gltf_validation_rules.proofs.Silent.{silent}
use Rattle.gltf_validation.specs.Clean.{IsClean}
use Rattle.gltf_validation.specs.Set.{IsShown}

-- an object of which a member is set to one without reports
member_set : (n : ℕ) (ts : Trees) (rows : Rows) (t : Tree) (context : Context) (above : Tree) (base : List Step)
    → member_reports ts rows context above base ≡ [] → reports (kind_at n rows) t context above (base ++ field (name_at n rows) ∷ []) ≡ []
    → member_reports (put_at n t ts) rows context above base ≡ []
member_set n end rows t context above base clean new = refl
member_set zero (with_tree u ts) no_rows t context above base clean new = refl
member_set (suc n) (with_tree u ts) no_rows t context above base clean new = refl
member_set zero (with_tree u ts) (row name mark kind rows) t context above base clean new =
    joined new (second_none (reports kind u context above (base ++ field name ∷ [])) (member_reports ts rows context above base) clean)
member_set (suc n) (with_tree u ts) (row name mark kind rows) t context above base clean new =
    let own = reports kind u context above (base ++ field name ∷ []) in
    let rest = member_reports ts rows context above base in
    joined (first_none own rest clean) (member_set n ts rows t context above base (second_none own rest clean) new)

-- ---- documents with the same lists

abbrev SameLists : Tree → Tree → Type 0
SameLists old new = (other : ListName) → list_in other new ≡ list_in other old

-- nothing is wrong against one if nothing is wrong against the other
against_same : (rules : Rules) (old new t : Tree) → SameLists old new → reports root_kind t (under rules old) absent [] ≡ [] → reports root_kind t (under rules new) absent [] ≡ []
against_same rules old new t same clean =
    let context = under rules old in
    let off = closed_avoids ListName.scenes context root_kind t (clean_is_closed context root_kind t absent [] clean) in
    reports_same rules ListName.scenes absent old new (λ other. inr (same other)) root_kind t absent absent [] (λ is. root_sound) off ∙ clean

-- the rule of documents looks at no such member
abbrev SameRule : ℕ → Tree → Root → Type 0
SameRule n t r = (enabled : List (List ℕ)) → root_rule enabled (put_at n t (root_members r)) [] ≡ root_rule enabled (root_members r) []

set_clean : (rules : Rules) (r s : Root) (n : ℕ) (t : Tree) → root_tree s ≡ closed_object (put_at n t (root_members r)) → SameLists (root_tree r) (root_tree s) → SameRule n t r
    → reports (kind_at n root_rows) t (under rules (root_tree r)) absent (field (name_at n root_rows) ∷ []) ≡ [] → IsClean rules (root_tree r) → IsClean rules (root_tree s)
set_clean rules r s n t is same rule new clean =
    let context = under rules (root_tree r) in
    let ms = root_members r in
    let members = member_reports ms root_rows context absent [] in
    let ruled = root_rule rules.enabled ms [] in
    let as_member = member_set n ms root_rows t context absent [] (first_none members ruled clean) new in
    let against_old : reports root_kind (closed_object (put_at n t ms)) context absent [] ≡ [] =
    joined as_member (rule rules.enabled ∙ second_none members ruled clean) in
    against_same rules (root_tree r) (root_tree s) (root_tree s) same (ap (λ x. reports root_kind x context absent []) is ∙ against_old)

-- ---- each of the members

-- no list of items is changed
lists_beside : (r q : Root) (other : ListName)
    → list_in other (root_tree (record r { scene = q.scene; asset = q.asset; extras = q.extras; extensions_used = q.extensions_used })) ≡ list_in other (root_tree r)
unfolding root_rows root_members
lists_beside r q ListName.accessors = refl
lists_beside r q other = refl

asset_silent : (a : Asset) (context : Context) (base : List Step) → reports asset_kind (closed_object (asset_members a)) context absent base ≡ []
asset_silent a context base = silent asset_kind asset_height.0 (closed_object (asset_members a)) context absent base

pub asset_set : (rules : Rules) (r : Root) (asset : Asset) → IsClean rules (root_tree r) → IsClean rules (root_tree (record r { asset = asset }))
unfolding root_rows root_members
asset_set rules r asset clean =
    set_clean rules r (record r { asset = asset }) (row_named (codes "asset") root_rows) (closed_object (asset_members asset)) refl
    (lists_beside r (record r { asset = asset })) (λ enabled. refl) (asset_silent asset (under rules (root_tree r)) _) clean

pub extras_set : (rules : Rules) (r : Root) (extras : Option Value) → IsClean rules (root_tree r) → IsClean rules (root_tree (record r { extras = extras }))
unfolding root_rows root_members
extras_set rules r extras clean =
    set_clean rules r (record r { extras = extras }) (row_named (codes "extras") root_rows) (tree_or_absent any_tree extras) refl
    (lists_beside r (record r { extras = extras })) (λ enabled. refl) refl clean

pub used_set : (rules : Rules) (r : Root) (names : Vec (String Global) Global) → IsClean rules (root_tree r) → IsClean rules (root_tree (record r { extensions_used = names }))
unfolding root_rows root_members
used_set rules r names clean =
    set_clean rules r (record r { extensions_used = names }) (row_named (codes "extensionsUsed") root_rows) (list_tree text_tree names.items) refl
    (lists_beside r (record r { extensions_used = names })) (λ enabled. refl) (silent (ListOf Text) refl (list_tree text_tree names.items) (under rules (root_tree r)) absent _) clean

-- a scene that is listed is no fault
scene_listed : {P : Type 0} (scene : Option (IndexTo P)) (rules : Rules) (r : Root) (base : List Step) → IsShown scene r
    → reports (IndexInto ListName.scenes) (tree_or_absent index_tree scene) (under rules (root_tree r)) absent base ≡ []
unfolding root_rows root_members
scene_listed None rules r base shown = refl
scene_listed (Some index) rules r base shown =
    let count = count_in-items ListName.scenes (root_tree r) _ r.scenes.items refl in
    rw (lt-ltb (index_number index) (count_in ListName.scenes (root_tree r)) (subst (λ n. index_number index < n) (sym count) shown)) refl

pub scene_set : (rules : Rules) (r s : Root) → s ≡ record r { scene = s.scene } → IsShown s.scene r → IsClean rules (root_tree r) → IsClean rules (root_tree s)
unfolding root_rows root_members
scene_set rules r s is shown clean =
    subst (λ q. IsClean rules (root_tree q)) (sym is)
    (set_clean rules r (record r { scene = s.scene }) (row_named (codes "scene") root_rows) (tree_or_absent index_tree s.scene) refl
    (lists_beside r (record r { scene = s.scene })) (λ enabled. refl) (scene_listed s.scene rules r _ shown) clean)

-- ---- a new document

pub new_clean : (rules : Rules) (r : Root) (version : List ℕ) → root_members r ≡ root_of_asset (asset_of_version version) → IsClean rules (root_tree r)
unfolding root_rows asset_rows
new_clean rules r version is = subst (λ ts. IsClean rules (closed_object ts)) (sym is) refl
