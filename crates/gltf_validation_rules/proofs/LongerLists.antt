-- The lists of a document with one more item in one of them.
use Rattle.std.proofs.Common.{◌≡◌, ◌≢◌, ◌⊎◌, ℕ, zero, suc, inl, inr, Option, Some, None, refl, ap}
use Rattle.gltf_base.specs.Lists.{ListName}
use Rattle.gltf_schema.specs.Tree.{Tree, list, Trees, end, with_tree, tree_at, tree_or_absent, items_in, members_in}
use Rattle.gltf_schema.specs.Fields.{closed_object}
use Rattle.gltf_root.specs.Lists.{lights_way, variants_way, further_way, list_in, row_of}
use Rattle.gltf_root.specs.Named.{Way, put_at, reached, with_reached}
use Rattle.gltf_root.specs.Pushed.{with_last, pushed}
use Rattle.gltf_root.specs.RootExtension.{lights_rows, variants_rows, root_extension_rows, root_extensions, root_extension_members, lights_members, variants_members}
use Rattle.gltf_root.specs.Root.{root_rows, root_members, root_tree}
use Rattle.gltf_root.specs.declared.root.Root.{Root}
use Rattle.gltf_root.specs.declared.extensions.root.Root.{Root as RootExtensions}
use Rattle.gltf_root.specs.declared.extensions.root.KhrLightsPunctual.{KhrLightsPunctual}
use Rattle.gltf_root.specs.declared.extensions.root.KhrMaterialsVariants.{KhrMaterialsVariants}

-- ---- the two in the extensions

-- the list that a way leads to, and a tree with one more item there
abbrev pub list_by : Way → Tree → Trees
list_by way t = items_in (reached way t)

abbrev pub with_item : Way → Tree → Tree → Tree
with_item way x t = with_reached way (list (with_last x (list_by way t))) t

lights_found : (x : Tree) (found : Option KhrLightsPunctual)
    → list_by lights_way (with_item lights_way x (tree_or_absent (λ v. closed_object (lights_members v)) found))
    ≡ with_last x (list_by lights_way (tree_or_absent (λ v. closed_object (lights_members v)) found))
unfolding lights_rows lights_members
lights_found x None = refl
lights_found x (Some v) = refl

lights_extended : (x : Tree) (found : Option RootExtensions)
    → list_by (further_way ListName.lights) (with_item (further_way ListName.lights) x (tree_or_absent root_extensions found)) ≡ with_last x (list_by (further_way ListName.lights) (tree_or_absent root_extensions found))
unfolding root_extension_rows root_extension_members
lights_extended x None = lights_found x None
lights_extended x (Some e) = lights_found x e.khr_lights_punctual

variants_found : (x : Tree) (found : Option KhrMaterialsVariants)
    → list_by variants_way (with_item variants_way x (tree_or_absent (λ v. closed_object (variants_members v)) found))
    ≡ with_last x (list_by variants_way (tree_or_absent (λ v. closed_object (variants_members v)) found))
unfolding variants_rows variants_members
variants_found x None = refl
variants_found x (Some v) = refl

variants_extended : (x : Tree) (found : Option RootExtensions)
    → list_by (further_way ListName.variants) (with_item (further_way ListName.variants) x (tree_or_absent root_extensions found)) ≡ with_last x (list_by (further_way ListName.variants) (tree_or_absent root_extensions found))
unfolding root_extension_rows root_extension_members
variants_extended x None = variants_found x None
variants_extended x (Some e) = variants_found x e.khr_materials_variants

-- each leaves the other as it was
lights_kept : (x : Tree) (found : Option RootExtensions)
    → list_by (further_way ListName.lights) (with_item (further_way ListName.variants) x (tree_or_absent root_extensions found)) ≡ list_by (further_way ListName.lights) (tree_or_absent root_extensions found)
unfolding root_extension_rows root_extension_members
lights_kept x None = refl
lights_kept x (Some e) = refl

variants_kept : (x : Tree) (found : Option RootExtensions)
    → list_by (further_way ListName.variants) (with_item (further_way ListName.lights) x (tree_or_absent root_extensions found)) ≡ list_by (further_way ListName.variants) (tree_or_absent root_extensions found)
unfolding root_extension_rows root_extension_members
variants_kept x None = refl
variants_kept x (Some e) = refl

-- ---- the lists of a document

-- a list of two documents: it has an item more at its end where it has the name, or is the same
abbrev pub GrowsAt : ListName → ListName → Tree → Tree → Tree → Type 0
GrowsAt other named x old new = ((other ≡ named) × (list_in other new ≡ with_last x (list_in other old))) ⊎ (list_in other new ≡ list_in other old)

abbrev pub Grows : ListName → Tree → Tree → Tree → Type 0
Grows named x old new = (other : ListName) → GrowsAt other named x old new

pub grows : (named : ListName) (x : Tree) (r : Root) → Grows named x (root_tree r) (pushed named x (root_tree r))
unfolding root_rows root_members
grows ListName.accessors x r ListName.accessors = inl (refl, refl)
grows ListName.animations x r ListName.animations = inl (refl, refl)
grows ListName.buffers x r ListName.buffers = inl (refl, refl)
grows ListName.buffer_views x r ListName.buffer_views = inl (refl, refl)
grows ListName.cameras x r ListName.cameras = inl (refl, refl)
grows ListName.images x r ListName.images = inl (refl, refl)
grows ListName.materials x r ListName.materials = inl (refl, refl)
grows ListName.meshes x r ListName.meshes = inl (refl, refl)
grows ListName.nodes x r ListName.nodes = inl (refl, refl)
grows ListName.samplers x r ListName.samplers = inl (refl, refl)
grows ListName.scenes x r ListName.scenes = inl (refl, refl)
grows ListName.skins x r ListName.skins = inl (refl, refl)
grows ListName.textures x r ListName.textures = inl (refl, refl)
grows ListName.lights x r ListName.lights = inl (refl, lights_extended x r.extensions)
grows ListName.variants x r ListName.variants = inl (refl, variants_extended x r.extensions)
grows ListName.lights x r ListName.variants = inr (variants_kept x r.extensions)
grows ListName.variants x r ListName.lights = inr (lights_kept x r.extensions)
grows named x r other = inr refl

-- ---- the one list, and the others

pub grown : (named : ListName) (x : Tree) (r : Root) → list_in named (pushed named x (root_tree r)) ≡ with_last x (list_in named (root_tree r))
unfolding root_rows root_members
grown ListName.lights x r = lights_extended x r.extensions
grown ListName.variants x r = variants_extended x r.extensions
grown named x r = refl

same_elsewhere : (other named : ListName) (x old new : Tree) → other ≢ named → GrowsAt other named x old new → list_in other new ≡ list_in other old
same_elsewhere other named x old new apart (inl h) = absurd (apart h.0)
same_elsewhere other named x old new apart (inr h) = h

pub others_kept : (other named : ListName) (x : Tree) (r : Root) → other ≢ named → list_in other (pushed named x (root_tree r)) ≡ list_in other (root_tree r)
others_kept other named x r apart = same_elsewhere other named x (root_tree r) (pushed named x (root_tree r)) apart (grows named x r other)

-- ---- the other members

put_elsewhere : (m n : ℕ) (t : Tree) (ts : Trees) → n ≢ m → tree_at n (put_at m t ts) ≡ tree_at n ts
put_elsewhere m n t end apart = refl
put_elsewhere zero zero t (with_tree u ts) apart = absurd (apart refl)
put_elsewhere zero (suc n) t (with_tree u ts) apart = refl
put_elsewhere (suc m) zero t (with_tree u ts) apart = refl
put_elsewhere (suc m) (suc n) t (with_tree u ts) apart = put_elsewhere m n t ts (λ e. apart (ap (λ k. suc k) e))

pub members_kept : (named : ListName) (n : ℕ) (x : Tree) (r : Root) → n ≢ row_of named → tree_at n (members_in (pushed named x (root_tree r))) ≡ tree_at n (members_in (root_tree r))
members_kept named n x r apart =
    put_elsewhere (row_of named) n (with_item (further_way named) x (tree_at (row_of named) (root_members r))) (root_members r) apart
