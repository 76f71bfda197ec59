-- What the implementations for lights and variants promise. The lists in the extensions of a document
-- are in its tree where the table lists them, also if another list is put there.
use Rattle.std.proofs.Common.{◌≡◌, List, true, not, map, option_map, Option, Some, None, refl, ap}
use Rattle.std.specs.declared.alloc.Global.{Global}
use Rattle.std.specs.declared.vec.Vec.{Vec}
use Rattle.serde_json.specs.View.{members_view}
use Rattle.gltf_base.specs.Lists.{ListName}
use Rattle.gltf_schema.specs.Tree.{Tree, Trees, absent, is_absent, list, object, end, trees, tree_or_absent, items_in, members_in}
use Rattle.gltf_schema.specs.Fields.{closed_object}
use Rattle.gltf_scene.specs.Light.{light_members, variant_members}
use Rattle.gltf_scene.specs.declared.extensions.scene.khr_lights_punctual.Light.{Light}
use Rattle.gltf_scene.specs.declared.extensions.scene.khr_materials_variants.Variant.{Variant}
use Rattle.gltf_root.specs.Items.{listed_in, lights_in, lights_of, lights_put, lights_put_in, put_lights, variants_in, variants_of, variants_put, variants_put_in, put_variants}
use Rattle.gltf_root.specs.Lists.{extensions_name, lights_name, variants_name, lights_way, variants_way, further_way, is_there}
use Rattle.gltf_root.specs.Named.{member_named, put_named, reached, with_reached}
use Rattle.gltf_root.specs.Pushed.{with_list}
use Rattle.gltf_root.specs.RootExtension.{lights_rows, variants_rows, root_extension_rows, root_extensions, root_extension_members, lights_members, variants_members}
use Rattle.gltf_root.specs.Root.{root_rows, root_members, root_tree}
use Rattle.gltf_root.specs.declared.root.Root.{Root}
use Rattle.gltf_root.specs.declared.extensions.root.KhrLightsPunctual.{KhrLightsPunctual}
use Rattle.gltf_root.specs.declared.extensions.root.KhrMaterialsVariants.{KhrMaterialsVariants}
use Rattle.gltf_root.specs.declared.extensions.root.Root.{Root as RootExtensions}

-- ---- where they are

-- the trees of a list in an object are where those of the object have them, if nothing is there in
-- what is absent
listed_in-trees : {O X : Type 0} {tree : O → Tree} (items : O → List X) (item : X → Tree) (place : Tree → Trees)
    → place absent ≡ end → ((found : O) → place (tree found) ≡ trees (map item (items found)))
    → (found : Option O) → place (tree_or_absent tree found) ≡ trees (map item (listed_in items found))
listed_in-trees items item place missing stands None = missing
listed_in-trees items item place missing stands (Some found) = stands found

pub lights_of-trees : (r : Root)
    → items_in (reached (further_way ListName.lights) (tree_or_absent root_extensions r.extensions)) ≡ trees (map (λ x. closed_object (light_members x)) (lights_of r))
unfolding root_extension_rows root_extension_members lights_rows lights_members
lights_of-trees r = listed_in-trees lights_in (λ x. closed_object (light_members x)) (λ t. items_in (reached (further_way ListName.lights) t)) refl
    (λ e. listed_in-trees (λ found. found.lights.items) (λ x. closed_object (light_members x)) (λ t. items_in (reached lights_way t)) refl (λ found. refl) e.khr_lights_punctual) r.extensions

pub variants_of-trees : (r : Root)
    → items_in (reached (further_way ListName.variants) (tree_or_absent root_extensions r.extensions)) ≡ trees (map (λ x. closed_object (variant_members x)) (variants_of r))
unfolding root_extension_rows root_extension_members variants_rows variants_members
variants_of-trees r = listed_in-trees variants_in (λ x. closed_object (variant_members x)) (λ t. items_in (reached (further_way ListName.variants) t)) refl
    (λ e. listed_in-trees (λ found. found.variants.items) (λ x. closed_object (variant_members x)) (λ t. items_in (reached variants_way t)) refl (λ found. refl) e.khr_materials_variants) r.extensions

-- ---- where those are that are put there

lights_found : (items : Vec Light Global) (found : Option KhrLightsPunctual)
    → not (is_absent (tree_or_absent (λ v. closed_object (lights_members v)) found)) ≡ true
    → (listed_in (λ v. v.lights.items) (option_map (lights_put items) found) ≡ items.items)
    × (tree_or_absent (λ v. closed_object (lights_members v)) (option_map (lights_put items) found)
    ≡ with_reached lights_way (list (trees (map (λ x. closed_object (light_members x)) items.items))) (tree_or_absent (λ v. closed_object (lights_members v)) found))
unfolding lights_rows lights_members
lights_found items None there = absurd cc
lights_found items (Some v) there = (refl, refl)

variants_found : (items : Vec Variant Global) (found : Option KhrMaterialsVariants)
    → not (is_absent (tree_or_absent (λ v. closed_object (variants_members v)) found)) ≡ true
    → (listed_in (λ v. v.variants.items) (option_map (variants_put items) found) ≡ items.items)
    × (tree_or_absent (λ v. closed_object (variants_members v)) (option_map (variants_put items) found)
    ≡ with_reached variants_way (list (trees (map (λ x. closed_object (variant_members x)) items.items))) (tree_or_absent (λ v. closed_object (variants_members v)) found))
unfolding variants_rows variants_members
variants_found items None there = absurd cc
variants_found items (Some v) there = (refl, refl)

lights_extended : (items : Vec Light Global) (found : Option RootExtensions)
    → not (is_absent (member_named lights_name root_extension_rows (members_in (tree_or_absent root_extensions found)))) ≡ true
    → (listed_in lights_in (option_map (lights_put_in items) found) ≡ items.items)
    × (tree_or_absent root_extensions (option_map (lights_put_in items) found)
    ≡ with_reached (further_way ListName.lights) (list (trees (map (λ x. closed_object (light_members x)) items.items))) (tree_or_absent root_extensions found))
unfolding root_extension_rows root_extension_members
lights_extended items None there = absurd cc
lights_extended items (Some e) there =
    let put = lights_found items e.khr_lights_punctual there in
    (put.0, ap (λ t. object (put_named lights_name root_extension_rows t (root_extension_members e)) (members_view e.others.entries)) put.1)

variants_extended : (items : Vec Variant Global) (found : Option RootExtensions)
    → not (is_absent (member_named variants_name root_extension_rows (members_in (tree_or_absent root_extensions found)))) ≡ true
    → (listed_in variants_in (option_map (variants_put_in items) found) ≡ items.items)
    × (tree_or_absent root_extensions (option_map (variants_put_in items) found)
    ≡ with_reached (further_way ListName.variants) (list (trees (map (λ x. closed_object (variant_members x)) items.items))) (tree_or_absent root_extensions found))
unfolding root_extension_rows root_extension_members
variants_extended items None there = absurd cc
variants_extended items (Some e) there =
    let put = variants_found items e.khr_materials_variants there in
    (put.0, ap (λ t. object (put_named variants_name root_extension_rows t (root_extension_members e)) (members_view e.others.entries)) put.1)

pub put_lights-trees : (r : Root) (items : Vec Light Global) → is_there ListName.lights (root_tree r) ≡ true
    → (lights_of (put_lights items r) ≡ items.items)
    × (root_tree (put_lights items r) ≡ with_list ListName.lights (trees (map (λ x. closed_object (light_members x)) items.items)) (root_tree r))
unfolding root_rows root_members
put_lights-trees r items there =
    let put = lights_extended items r.extensions there in
    (put.0, ap (λ t. closed_object (put_named extensions_name root_rows t (root_members r))) put.1)

pub put_variants-trees : (r : Root) (items : Vec Variant Global) → is_there ListName.variants (root_tree r) ≡ true
    → (variants_of (put_variants items r) ≡ items.items)
    × (root_tree (put_variants items r) ≡ with_list ListName.variants (trees (map (λ x. closed_object (variant_members x)) items.items)) (root_tree r))
unfolding root_rows root_members
put_variants-trees r items there =
    let put = variants_extended items r.extensions there in
    (put.0, ap (λ t. closed_object (put_named extensions_name root_rows t (root_members r))) put.1)
