-- A plain document stays plain by a push of a plain item.
use Rattle.std.proofs.Common.{◌≡◌, ℕ, zero, suc, Bool, true, false, not, ◌&&◌, ◌||◌, Option, Some, None, refl, sym, ap, ◌∙◌}
use Rattle.std.proofs.lemmas.Bool.{and_from, and_parts}
use Rattle.serde_json.specs.Data.{Members, no_members}
use Rattle.serde_json.specs.View.{members_view}
use Rattle.gltf_base.specs.Lists.{ListName}
use Rattle.gltf_schema.specs.Defaults.{defaults}
use Rattle.gltf_schema.specs.Fields.{closed_object}
use Rattle.gltf_schema.specs.Kind.{Mark, required, optional, always, unless, sometimes, or_null, Kind, Choice, ListOf, Object, Rows, no_rows, row, Rule, no_rule, requires_enabled}
use Rattle.gltf_schema.specs.Plain.{is_null_kept, none_named, are_none, all_trees, is_plain, are_plain}
use Rattle.gltf_schema.specs.Tree.{Tree, absent, list, object, Trees, end, with_tree, tree_at, tree_or_absent, items_in}
use Rattle.gltf_parts.specs.Accessor.{accessor_kind}
use Rattle.gltf_parts.specs.Buffer.{buffer_kind, view_kind}
use Rattle.gltf_parts.specs.Image.{image_kind}
use Rattle.gltf_parts.specs.Texture.{sampler_kind, texture_kind}
use Rattle.gltf_parts.specs.Material.{material_kind}
use Rattle.gltf_scene.specs.Mesh.{mesh_kind}
use Rattle.gltf_scene.specs.Camera.{camera_kind}
use Rattle.gltf_scene.specs.Light.{light_kind, variant_kind}
use Rattle.gltf_scene.specs.Scene.{node_kind, scene_kind, skin_kind}
use Rattle.gltf_scene.specs.Animation.{animation_kind}
use Rattle.gltf_root.specs.Lists.{lights_way, variants_way, further_way, row_of}
use Rattle.gltf_root.specs.Named.{put_at}
use Rattle.gltf_root.specs.Pushed.{with_last, pushed, item_kind}
use Rattle.gltf_root.specs.Root.{root_rows, root_kind, root_members, root_tree}
use Rattle.gltf_root.specs.RootExtension.{lights_rows, lights_kind, lights_members, variants_rows, variants_kind, variants_members, root_extension_rows, root_extensions_kind, root_extension_members, root_extensions}
use Rattle.gltf_root.specs.declared.root.Root.{Root}
use Rattle.gltf_root.specs.declared.extensions.root.KhrLightsPunctual.{KhrLightsPunctual}
use Rattle.gltf_root.specs.declared.extensions.root.KhrMaterialsVariants.{KhrMaterialsVariants}
use Rattle.gltf_root.specs.declared.extensions.root.Root.{Root as RootExtensions}
use Rattle.gltf_validation_rules.proofs.LongerLists.{with_item}
use Rattle.gltf_validation_rules.proofs.Inserting.{kind_at}

-- ---- an object with another member

-- a tree is plain as the member of a row
abbrev fits : Mark → Kind → Tree → Bool
fits mark kind t = not (is_null_kept mark t) && is_plain kind t

abbrev fits_at : ℕ → Rows → Tree → Bool
fits_at n no_rows t = true
fits_at zero (row name mark kind rows) t = fits mark kind t
fits_at (suc n) (row name mark kind rows) t = fits_at n rows t

members_put : (n : ℕ) (rows : Rows) (t : Tree) (ts : Trees) → are_plain rows ts ≡ true → fits_at n rows t ≡ true → are_plain rows (put_at n t ts) ≡ true
members_put n no_rows t ts plain new = refl
members_put n (row name mark kind rows) t end plain new = refl
members_put zero (row name mark kind rows) t (with_tree u ts) plain new =
    and_from (fits mark kind t) _ new (and_parts (fits mark kind u) (are_plain rows ts) plain).1
members_put (suc n) (row name mark kind rows) t (with_tree u ts) plain new =
    let parts = and_parts (fits mark kind u) (are_plain rows ts) plain in and_from (fits mark kind u) _ parts.0 (members_put n rows t ts parts.1 new)

object_parts : (rule : Rule) (rows : Rows) (keeps : Bool) (ts : Trees) (others : Members) → is_plain (Object rule rows keeps) (object ts others) ≡ true
    → (are_plain rows ts ≡ true) × (none_named rows others ≡ true) × ((keeps || are_none others) ≡ true)
object_parts rule rows keeps ts others plain =
    let whole = and_parts (are_plain rows ts && none_named rows others) (keeps || are_none others) plain in
    let parts = and_parts (are_plain rows ts) (none_named rows others) whole.0 in (parts.0, parts.1, whole.1)

object_put : (rule : Rule) (rows : Rows) (keeps : Bool) (n : ℕ) (t : Tree) (ts : Trees) (others : Members) → is_plain (Object rule rows keeps) (object ts others) ≡ true
    → fits_at n rows t ≡ true → is_plain (Object rule rows keeps) (object (put_at n t ts) others) ≡ true
object_put rule rows keeps n t ts others plain new =
    let parts = object_parts rule rows keeps ts others plain in
    let members = are_plain rows (put_at n t ts) in
    and_from (members && none_named rows others) _ (and_from members _ (members_put n rows t ts parts.0 new) parts.1) parts.2

absent_plain : (kind : Kind) → is_plain kind absent ≡ true
absent_plain (Choice form spellings) = refl
absent_plain (ListOf kind) = refl
absent_plain (Object rule rows keeps) = refl
absent_plain kind = refl

-- the member of a plain object at a number
member_plain : (n : ℕ) (rows : Rows) (ts : Trees) → are_plain rows ts ≡ true → is_plain (kind_at n rows) (tree_at n ts) ≡ true
member_plain n no_rows ts plain = refl
member_plain n (row name mark kind rows) end plain = absent_plain _
member_plain zero (row name mark kind rows) (with_tree t ts) plain =
    (and_parts (not (is_null_kept mark t)) (is_plain kind t) (and_parts (fits mark kind t) (are_plain rows ts) plain).0).1
member_plain (suc n) (row name mark kind rows) (with_tree t ts) plain = member_plain n rows ts (and_parts (fits mark kind t) (are_plain rows ts) plain).1

-- ---- a list with one more item

list_kept : (mark : Mark) (ts : Trees) → not (is_null_kept mark (list ts)) ≡ true
list_kept required ts = refl
list_kept optional ts = refl
list_kept (always t) ts = refl
list_kept (unless t) ts = refl
list_kept sometimes ts = refl
list_kept or_null ts = refl

all_last : (p : Tree → Bool) (x : Tree) (ts : Trees) → all_trees p ts ≡ true → p x ≡ true → all_trees p (with_last x ts) ≡ true
all_last p x end all new = and_from (p x) true new refl
all_last p x (with_tree t ts) all new = let parts = and_parts (p t) (all_trees p ts) all in and_from (p t) _ parts.0 (all_last p x ts parts.1 new)

items_plain : (kind : Kind) (t : Tree) → is_plain (ListOf kind) t ≡ true → all_trees (is_plain kind) (items_in t) ≡ true
items_plain kind (list ts) plain = plain
items_plain kind t plain = refl

list_fits : (n : ℕ) (rows : Rows) (items : Trees) (kind : Kind) → kind_at n rows ≡ ListOf kind → all_trees (is_plain kind) items ≡ true → fits_at n rows (list items) ≡ true
list_fits n no_rows items kind is all = refl
list_fits zero (row name mark k rows) items kind is all = and_from (not (is_null_kept mark (list items))) _ (list_kept mark items) (ap (λ j. is_plain j (list items)) is ∙ all)
list_fits (suc n) (row name mark k rows) items kind is all = list_fits n rows items kind is all

-- an object with a list that has one more item
object_grown : (rule : Rule) (rows : Rows) (keeps : Bool) (n : ℕ) (kind : Kind) (x : Tree) (ts : Trees) (others : Members) → kind_at n rows ≡ ListOf kind
    → is_plain (Object rule rows keeps) (object ts others) ≡ true → is_plain kind x ≡ true
    → is_plain (Object rule rows keeps) (object (put_at n (list (with_last x (items_in (tree_at n ts)))) ts) others) ≡ true
object_grown rule rows keeps n kind x ts others is plain new =
    let old : is_plain (ListOf kind) (tree_at n ts) ≡ true = ap (λ k. is_plain k (tree_at n ts)) (sym is) ∙ member_plain n rows ts (object_parts rule rows keeps ts others plain).0 in
    let all = all_last (is_plain kind) x (items_in (tree_at n ts)) (items_plain kind (tree_at n ts) old) new in
    object_put rule rows keeps n _ ts others plain (list_fits n rows _ kind is all)

-- ---- the two lists in the extensions

lights_fit : (x : Tree) (found : Option KhrLightsPunctual) → is_plain lights_kind (tree_or_absent (λ v. closed_object (lights_members v)) found) ≡ true → is_plain light_kind x ≡ true
    → fits optional lights_kind (with_item lights_way x (tree_or_absent (λ v. closed_object (lights_members v)) found)) ≡ true
unfolding lights_rows lights_members
lights_fit x None plain new = object_grown no_rule lights_rows false 0 light_kind x (defaults lights_rows) no_members refl refl new
lights_fit x (Some v) plain new = object_grown no_rule lights_rows false 0 light_kind x (lights_members v) no_members refl plain new

variants_fit : (x : Tree) (found : Option KhrMaterialsVariants) → is_plain variants_kind (tree_or_absent (λ v. closed_object (variants_members v)) found) ≡ true → is_plain variant_kind x ≡ true
    → fits optional variants_kind (with_item variants_way x (tree_or_absent (λ v. closed_object (variants_members v)) found)) ≡ true
unfolding variants_rows variants_members
variants_fit x None plain new = object_grown no_rule variants_rows false 0 variant_kind x (defaults variants_rows) no_members refl refl new
variants_fit x (Some v) plain new = object_grown no_rule variants_rows false 0 variant_kind x (variants_members v) no_members refl plain new

lights_extended : (x : Tree) (found : Option RootExtensions) → is_plain root_extensions_kind (tree_or_absent root_extensions found) ≡ true → is_plain light_kind x ≡ true
    → fits optional root_extensions_kind (with_item (further_way ListName.lights) x (tree_or_absent root_extensions found)) ≡ true
unfolding root_extension_rows root_extension_members
lights_extended x None plain new =
    object_put no_rule root_extension_rows true 0 (with_item lights_way x absent) (defaults root_extension_rows) no_members refl (lights_fit x None refl new)
lights_extended x (Some e) plain new =
    let members = (object_parts no_rule root_extension_rows true (root_extension_members e) (members_view e.others.entries) plain).0 in
    let lights = tree_or_absent (λ v. closed_object (lights_members v)) e.khr_lights_punctual in
    object_put no_rule root_extension_rows true 0 (with_item lights_way x lights) (root_extension_members e) (members_view e.others.entries) plain
    (lights_fit x e.khr_lights_punctual (member_plain 0 root_extension_rows (root_extension_members e) members) new)

variants_extended : (x : Tree) (found : Option RootExtensions) → is_plain root_extensions_kind (tree_or_absent root_extensions found) ≡ true → is_plain variant_kind x ≡ true
    → fits optional root_extensions_kind (with_item (further_way ListName.variants) x (tree_or_absent root_extensions found)) ≡ true
unfolding root_extension_rows root_extension_members
variants_extended x None plain new =
    object_put no_rule root_extension_rows true 1 (with_item variants_way x absent) (defaults root_extension_rows) no_members refl (variants_fit x None refl new)
variants_extended x (Some e) plain new =
    let members = (object_parts no_rule root_extension_rows true (root_extension_members e) (members_view e.others.entries) plain).0 in
    let variants = tree_or_absent (λ v. closed_object (variants_members v)) e.khr_materials_variants in
    object_put no_rule root_extension_rows true 1 (with_item variants_way x variants) (root_extension_members e) (members_view e.others.entries) plain
    (variants_fit x e.khr_materials_variants (member_plain 1 root_extension_rows (root_extension_members e) members) new)

-- ---- a whole document

root_grown : (n : ℕ) (kind : Kind) (x : Tree) (r : Root) → kind_at n root_rows ≡ ListOf kind → is_plain root_kind (root_tree r) ≡ true → is_plain kind x ≡ true
    → is_plain root_kind (closed_object (put_at n (list (with_last x (items_in (tree_at n (root_members r))))) (root_members r))) ≡ true
root_grown n kind x r is plain new = object_grown requires_enabled root_rows false n kind x (root_members r) no_members is plain new

pub pushed_plain : (named : ListName) (x : Tree) (r : Root) → is_plain root_kind (root_tree r) ≡ true → is_plain (item_kind named) x ≡ true
    → is_plain root_kind (pushed named x (root_tree r)) ≡ true
unfolding root_rows root_members
pushed_plain ListName.accessors x r plain new = root_grown (row_of ListName.accessors) accessor_kind x r refl plain new
pushed_plain ListName.animations x r plain new = root_grown (row_of ListName.animations) animation_kind x r refl plain new
pushed_plain ListName.buffers x r plain new = root_grown (row_of ListName.buffers) buffer_kind x r refl plain new
pushed_plain ListName.buffer_views x r plain new = root_grown (row_of ListName.buffer_views) view_kind x r refl plain new
pushed_plain ListName.cameras x r plain new = root_grown (row_of ListName.cameras) camera_kind x r refl plain new
pushed_plain ListName.images x r plain new = root_grown (row_of ListName.images) image_kind x r refl plain new
pushed_plain ListName.materials x r plain new = root_grown (row_of ListName.materials) material_kind x r refl plain new
pushed_plain ListName.meshes x r plain new = root_grown (row_of ListName.meshes) mesh_kind x r refl plain new
pushed_plain ListName.nodes x r plain new = root_grown (row_of ListName.nodes) node_kind x r refl plain new
pushed_plain ListName.samplers x r plain new = root_grown (row_of ListName.samplers) sampler_kind x r refl plain new
pushed_plain ListName.scenes x r plain new = root_grown (row_of ListName.scenes) scene_kind x r refl plain new
pushed_plain ListName.skins x r plain new = root_grown (row_of ListName.skins) skin_kind x r refl plain new
pushed_plain ListName.textures x r plain new = root_grown (row_of ListName.textures) texture_kind x r refl plain new
pushed_plain ListName.lights x r plain new =
    let n = row_of ListName.lights in
    let old = member_plain n root_rows (root_members r) (object_parts requires_enabled root_rows false (root_members r) no_members plain).0 in
    object_put requires_enabled root_rows false n _ (root_members r) no_members plain (lights_extended x r.extensions old new)
pushed_plain ListName.variants x r plain new =
    let n = row_of ListName.variants in
    let old = member_plain n root_rows (root_members r) (object_parts requires_enabled root_rows false (root_members r) no_members plain).0 in
    object_put requires_enabled root_rows false n _ (root_members r) no_members plain (variants_extended x r.extensions old new)
