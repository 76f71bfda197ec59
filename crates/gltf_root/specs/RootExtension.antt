-- The rows of the extensions of a whole document.
use Rattle.std.specs.Prelude.{true, false, codes, [], ◌∷◌}
use Rattle.gltf_schema.specs.Kind.{required, optional, Kind, ListOf, Object, Rows, no_rows, ◌◂◌, no_rule}
use Rattle.gltf_scene.specs.Light.{light_kind, variant_kind, light_members, variant_members}
use Rattle.serde_json.specs.View.{members_view}
use Rattle.gltf_schema.specs.Tree.{Tree, Trees, trees, tree_or_absent, object}
use Rattle.gltf_schema.specs.Fields.{list_tree, closed_object}
use Rattle.gltf_root.specs.declared.extensions.root.Root.{Root}
use Rattle.gltf_root.specs.declared.extensions.root.KhrLightsPunctual.{KhrLightsPunctual}
use Rattle.gltf_root.specs.declared.extensions.root.KhrMaterialsVariants.{KhrMaterialsVariants}

unfoldable pub lights_rows : Rows
lights_rows =
    (codes "lights", required, ListOf light_kind)
    ◂ no_rows

abbrev pub lights_kind : Kind
lights_kind = Object no_rule lights_rows false

unfoldable pub variants_rows : Rows
variants_rows =
    (codes "variants", required, ListOf variant_kind)
    ◂ no_rows

abbrev pub variants_kind : Kind
variants_kind = Object no_rule variants_rows false

unfoldable pub root_extension_rows : Rows
root_extension_rows =
    (codes "KHR_lights_punctual", optional, lights_kind)
    ◂ (codes "KHR_materials_variants", optional, variants_kind)
    ◂ no_rows

abbrev pub root_extensions_kind : Kind
root_extensions_kind = Object no_rule root_extension_rows true

-- ---- the members of the extensions of a whole document, in the rows' order

unfoldable pub lights_members : KhrLightsPunctual → Trees
lights_members v = trees (
    list_tree (λ x. closed_object (light_members x)) v.lights.items
    ∷ [])

unfoldable pub variants_members : KhrMaterialsVariants → Trees
variants_members v = trees (
    list_tree (λ x. closed_object (variant_members x)) v.variants.items
    ∷ [])

unfoldable pub root_extension_members : Root → Trees
root_extension_members v = trees (
    tree_or_absent (λ x. closed_object (lights_members x)) v.khr_lights_punctual
    ∷ tree_or_absent (λ x. closed_object (variants_members x)) v.khr_materials_variants
    ∷ [])

abbrev pub root_extensions : Root → Tree
root_extensions e = object (root_extension_members e) (members_view e.others.entries)
