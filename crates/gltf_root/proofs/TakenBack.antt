-- A push that is taken back leaves the document that was pushed onto.
use Rattle.std.proofs.Common.{◌≡◌, Option, Some, None, refl, ap}
use Rattle.gltf_base.specs.Lists.{ListName}
use Rattle.gltf_schema.specs.Tree.{Tree, tree_or_absent}
use Rattle.gltf_schema.specs.Fields.{closed_object}
use Rattle.gltf_root.proofs.Undoing.{without_last-with_last}
use Rattle.gltf_root.specs.Lists.{extensions_name, list_in}
use Rattle.gltf_root.specs.Named.{put_named}
use Rattle.gltf_root.specs.Pushed.{pushed, with_list}
use Rattle.gltf_root.specs.RootExtension.{lights_rows, variants_rows, root_extension_rows, root_extensions, root_extension_members, lights_members, variants_members}
use Rattle.gltf_root.specs.Root.{root_rows, root_members, root_tree}
use Rattle.gltf_root.specs.Undone.{mark_in, undone}
use Rattle.gltf_root.specs.declared.root.Root.{Root}
use Rattle.gltf_root.specs.declared.extensions.root.Root.{Root as RootExtensions}
use Rattle.gltf_root.specs.declared.extensions.root.KhrLightsPunctual.{KhrLightsPunctual}
use Rattle.gltf_root.specs.declared.extensions.root.KhrMaterialsVariants.{KhrMaterialsVariants}

-- that a push onto a list of a tree is taken back
abbrev IsTakenBack : ListName → Tree → Tree → Type 0
IsTakenBack named x root = undone named (mark_in named root) (pushed named x root) ≡ root

-- a document with other extensions
abbrev extended : Root → Tree → Tree
extended r extensions = closed_object (put_named extensions_name root_rows extensions (root_members r))

in_lights : (r : Root) (x : Tree) (e : RootExtensions) (found : Option KhrLightsPunctual)
    → IsTakenBack ListName.lights x (extended r (root_extensions (record e { khr_lights_punctual = found })))
unfolding root_rows root_members root_extension_rows root_extension_members lights_rows lights_members
in_lights r x e None = refl
in_lights r x e (Some found) =
    let root = extended r (root_extensions (record e { khr_lights_punctual = Some found })) in
    ap (λ ts. with_list ListName.lights ts root) (without_last-with_last x (list_in ListName.lights root))

in_variants : (r : Root) (x : Tree) (e : RootExtensions) (found : Option KhrMaterialsVariants)
    → IsTakenBack ListName.variants x (extended r (root_extensions (record e { khr_materials_variants = found })))
unfolding root_rows root_members root_extension_rows root_extension_members variants_rows variants_members
in_variants r x e None = refl
in_variants r x e (Some found) =
    let root = extended r (root_extensions (record e { khr_materials_variants = Some found })) in
    ap (λ ts. with_list ListName.variants ts root) (without_last-with_last x (list_in ListName.variants root))

of_lights : (r : Root) (x : Tree) (found : Option RootExtensions)
    → IsTakenBack ListName.lights x (extended r (tree_or_absent root_extensions found))
unfolding root_rows root_members
of_lights r x None = refl
of_lights r x (Some e) = in_lights r x e e.khr_lights_punctual

of_variants : (r : Root) (x : Tree) (found : Option RootExtensions)
    → IsTakenBack ListName.variants x (extended r (tree_or_absent root_extensions found))
unfolding root_rows root_members
of_variants r x None = refl
of_variants r x (Some e) = in_variants r x e e.khr_materials_variants

pub taken_back : (r : Root) (named : ListName) (x : Tree) → IsTakenBack named x (root_tree r)
unfolding root_rows root_members
taken_back r ListName.lights x = of_lights r x r.extensions
taken_back r ListName.variants x = of_variants r x r.extensions
taken_back r named x = ap (λ ts. with_list named ts (root_tree r)) (without_last-with_last x (list_in named (root_tree r)))
