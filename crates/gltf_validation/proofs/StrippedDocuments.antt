-- A document that is stripped has the same reports: its lists are as long, and nothing that a rule looks at is stripped.
use Rattle.std.proofs.Common.{◌≡◌, ℕ, List, Bool, true, false, codes, refl, ◌∙◌, ap}
use Rattle.gltf_base.specs.Lists.{ListName}
use Rattle.gltf_schema.specs.Kind.{ListOf, Object, Rows, Rule, no_rule, requires_enabled}
use Rattle.gltf_schema.specs.Stripped.{each_tree, stripped}
use Rattle.gltf_schema.specs.Tree.{Tree, absent, count_of, items_in, members_in, tree_at}
use Rattle.gltf_schema.specs.declared.stripping.Strip.{Strip}
use Rattle.gltf_parts.specs.Accessor.{accessor_kind, accessor_rows, sparse_indices_rows, sparse_rows, sparse_values_rows}
use Rattle.gltf_parts.specs.Buffer.{buffer_rows, view_rows}
use Rattle.gltf_parts.specs.Image.{image_rows}
use Rattle.gltf_parts.specs.Material.{material_rows, normal_texture_rows, occlusion_texture_rows, pbr_metallic_roughness_rows}
use Rattle.gltf_parts.specs.MaterialExtension.{emissive_strength_rows, ior_rows, material_extension_rows, pbr_specular_glossiness_rows, specular_rows, transmission_rows, volume_rows}
use Rattle.gltf_parts.specs.Texture.{info_extension_rows, info_rows, sampler_rows, texture_rows, texture_transform_rows}
use Rattle.gltf_scene.specs.Animation.{animation_channel_rows, animation_rows, animation_sampler_rows, animation_target_rows}
use Rattle.gltf_scene.specs.Asset.{asset_rows}
use Rattle.gltf_scene.specs.Camera.{camera_rows, orthographic_rows, perspective_rows}
use Rattle.gltf_scene.specs.Light.{light_kind, light_of_node_rows, light_rows, spot_rows, variant_kind, variant_rows}
use Rattle.gltf_scene.specs.Mesh.{mesh_rows, morph_target_rows, primitive_extension_rows, primitive_rows, variant_mapping_rows, variant_mappings_rows}
use Rattle.gltf_scene.specs.Scene.{node_extension_rows, node_rows, scene_rows, skin_rows}
use Rattle.gltf_root.specs.Lists.{extensions_in, extension_in, extensions_name, lights_name, list_in, row_of, variants_name}
use Rattle.gltf_root.specs.Named.{member_named, row_named}
use Rattle.gltf_root.specs.Pushed.{item_kind}
use Rattle.gltf_root.specs.Root.{root_kind, root_rows}
use Rattle.gltf_root.specs.RootExtension.{lights_kind, lights_rows, root_extension_rows, root_extensions_kind, variants_kind, variants_rows}
use Rattle.gltf_validation_rules.specs.Context.{Rules}
use Rattle.gltf_validation_rules.specs.Reports.{document_reports}
use Rattle.gltf_validation_rules.proofs.Inserting.{kind_at}
use Rattle.gltf_validation.proofs.Stripping.{absent_left, count_each, has_plain_extras, items_left, kept, member_at, members_left, tree_each, tree_same}

plain_extras : has_plain_extras root_kind ≡ true
unfolding root_rows root_extension_rows lights_rows variants_rows light_rows spot_rows variant_rows light_of_node_rows
    accessor_rows sparse_rows sparse_indices_rows sparse_values_rows buffer_rows view_rows image_rows
    material_rows pbr_metallic_roughness_rows normal_texture_rows occlusion_texture_rows material_extension_rows pbr_specular_glossiness_rows
    transmission_rows volume_rows specular_rows ior_rows emissive_strength_rows
    sampler_rows texture_rows texture_transform_rows info_extension_rows info_rows
    animation_rows animation_channel_rows animation_sampler_rows animation_target_rows asset_rows camera_rows orthographic_rows perspective_rows
    mesh_rows primitive_rows morph_target_rows primitive_extension_rows variant_mappings_rows variant_mapping_rows
    node_rows node_extension_rows scene_rows skin_rows
plain_extras = refl

module _ (what : Strip) where
  -- a member of a name, of an object that is stripped
  named_left : (rule : Rule) (rows : Rows) (keeps : Bool) (name : List ℕ) (t : Tree) → kept (row_named name rows) rows ≡ true
      → member_named name rows (members_in (stripped what (Object rule rows keeps) t)) ≡ stripped what (kind_at (row_named name rows) rows) (member_named name rows (members_in t))
  named_left rule rows keeps name t h =
      ap (tree_at (row_named name rows)) (members_left what rule rows keeps t) ∙ member_at what (row_named name rows) rows (members_in t) h

  root_left : (n : ℕ) (t : Tree) → kept n root_rows ≡ true → tree_at n (members_in (stripped what root_kind t)) ≡ stripped what (kind_at n root_rows) (tree_at n (members_in t))
  root_left n t h = ap (tree_at n) (members_left what requires_enabled root_rows false t) ∙ member_at what n root_rows (members_in t) h

  -- the extensions of a document
  extensions_left : (t : Tree) → extensions_in (stripped what root_kind t) ≡ stripped what root_extensions_kind (extensions_in t)
  unfolding root_rows
  extensions_left t = root_left (row_named extensions_name root_rows) t refl

  lights_left : (t : Tree) → extension_in lights_name (stripped what root_kind t) ≡ stripped what lights_kind (extension_in lights_name t)
  unfolding root_extension_rows
  lights_left t = ap (λ x. member_named lights_name root_extension_rows (members_in x)) (extensions_left t) ∙ named_left no_rule root_extension_rows true lights_name (extensions_in t) refl

  variants_left : (t : Tree) → extension_in variants_name (stripped what root_kind t) ≡ stripped what variants_kind (extension_in variants_name t)
  unfolding root_extension_rows
  variants_left t = ap (λ x. member_named variants_name root_extension_rows (members_in x)) (extensions_left t) ∙ named_left no_rule root_extension_rows true variants_name (extensions_in t) refl

  all_lights : (t : Tree) → member_named (codes "lights") lights_rows (members_in (extension_in lights_name (stripped what root_kind t))) ≡ stripped what (ListOf light_kind) (member_named (codes "lights") lights_rows (members_in (extension_in lights_name t)))
  unfolding lights_rows
  all_lights t = ap (λ x. member_named (codes "lights") lights_rows (members_in x)) (lights_left t) ∙ named_left no_rule lights_rows false (codes "lights") (extension_in lights_name t) refl

  all_variants : (t : Tree) → member_named (codes "variants") variants_rows (members_in (extension_in variants_name (stripped what root_kind t))) ≡ stripped what (ListOf variant_kind) (member_named (codes "variants") variants_rows (members_in (extension_in variants_name t)))
  unfolding variants_rows
  all_variants t = ap (λ x. member_named (codes "variants") variants_rows (members_in x)) (variants_left t) ∙ named_left no_rule variants_rows false (codes "variants") (extension_in variants_name t) refl

  -- each list has the same items, which are stripped
  list_left : (named : ListName) (t : Tree) → list_in named (stripped what root_kind t) ≡ each_tree (stripped what (item_kind named)) (list_in named t)
  unfolding root_rows
  list_left ListName.lights t = ap items_in (all_lights t) ∙ items_left what light_kind _
  list_left ListName.variants t = ap items_in (all_variants t) ∙ items_left what variant_kind _
  list_left ListName.accessors t = ap items_in (root_left (row_of ListName.accessors) t refl) ∙ items_left what (item_kind ListName.accessors) _
  list_left named t = ap items_in (root_left (row_of named) t refl) ∙ items_left what (item_kind named) _

  pub stripped_document : (rules : Rules) (t : Tree) → document_reports rules (stripped what root_kind t) ≡ document_reports rules t
  stripped_document rules t =
      let counts = λ (named : ListName). ap count_of (list_left named t) ∙ count_each (stripped what (item_kind named)) (list_in named t) in
      let accessors = λ (n : ℕ). ap (tree_at n) (list_left ListName.accessors t) ∙ tree_each (stripped what accessor_kind) n (list_in ListName.accessors t) (absent_left what accessor_kind) in
      tree_same what rules t (stripped what root_kind t) counts accessors root_kind t absent absent _ plain_extras refl
