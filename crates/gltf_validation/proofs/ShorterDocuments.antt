-- The reports of a document whose list lacks its last item are those of what has indexes into the list.
use Rattle.std.proofs.Common.{◌≡◌, ℕ, List, [], ◌∷◌, ◌++◌, Bool, true, false, Option, Some, None, refl, sym, ◌∙◌, ap, subst, append-nil}
use Rattle.std.proofs.lemmas.Bool.{and_parts}
use Rattle.gltf_base.specs.Lists.{ListName}
use Rattle.gltf_base.specs.Steps.{Step}
use Rattle.gltf_base.specs.declared.validation.Error.{Error}
use Rattle.gltf_schema.specs.Kind.{ListOf, requires_enabled}
use Rattle.gltf_schema.specs.Sound.{suits, are_sound}
use Rattle.gltf_schema.specs.Tree as tree
use Rattle.gltf_schema.specs.Tree.{Tree, absent, tree_at}
use Rattle.gltf_parts.specs.Accessor.{accessor_rows, sparse_indices_rows, sparse_rows, sparse_values_rows}
use Rattle.gltf_parts.specs.Buffer.{buffer_rows, view_rows}
use Rattle.gltf_parts.specs.Image.{image_rows}
use Rattle.gltf_parts.specs.Material.{material_rows, normal_texture_rows, occlusion_texture_rows, pbr_metallic_roughness_rows}
use Rattle.gltf_parts.specs.MaterialExtension.{emissive_strength_rows, ior_rows, material_extension_rows, pbr_specular_glossiness_rows, specular_rows, transmission_rows, volume_rows}
use Rattle.gltf_parts.specs.Texture.{info_extension_rows, info_rows, sampler_rows, texture_rows, texture_transform_rows}
use Rattle.gltf_scene.specs.Animation.{animation_channel_rows, animation_rows, animation_sampler_rows, animation_target_rows}
use Rattle.gltf_scene.specs.Asset.{asset_rows}
use Rattle.gltf_scene.specs.Camera.{camera_rows, orthographic_rows, perspective_rows}
use Rattle.gltf_scene.specs.Light.{light_of_node_rows, light_rows, spot_rows, variant_rows}
use Rattle.gltf_scene.specs.Mesh.{mesh_rows, morph_target_rows, primitive_extension_rows, primitive_rows, variant_mapping_rows, variant_mappings_rows}
use Rattle.gltf_scene.specs.Scene.{node_extension_rows, node_rows, scene_rows, skin_rows}
use Rattle.gltf_root.specs.Lists.{further_way, row_of}
use Rattle.gltf_root.specs.Named.{Way, put_at}
use Rattle.gltf_root.specs.Pushed.{item_kind, pushed}
use Rattle.gltf_root.specs.Root.{root_members, root_rows, root_tree}
use Rattle.gltf_root.specs.RootDerived.{root_sound}
use Rattle.gltf_root.specs.RootExtension.{lights_rows, root_extension_rows, variants_rows}
use Rattle.gltf_root.specs.declared.root.Root.{Root}
use Rattle.gltf_validation_rules.specs.Report.{Report, first_fault_of}
use Rattle.gltf_validation_rules.specs.Context.{Rules, under}
use Rattle.gltf_validation_rules.specs.Reports.{document_reports, member_reports}
use Rattle.gltf_validation_rules.specs.Rules.{root_rule}
use Rattle.gltf_validation_rules.proofs.Inserting.{kind_at}
use Rattle.gltf_validation_rules.proofs.LongerLists.{grows, with_item}
use Rattle.gltf_validation_rules.proofs.TwoParts.{first_none, second_none}
use Rattle.gltf_validation.specs.Indexing.{is_member, list_reports, reports_into, scene_reports}
use Rattle.gltf_validation.proofs.Indexing.{flagged_reports, flags, shorter_kept}

-- no way leads further
no_way : (named : ListName) → is_member named ≡ true → further_way named ≡ []
no_way ListName.lights h = absurd cc
no_way ListName.variants h = absurd cc
no_way named h = refl

list_there : (named : ListName) → is_member named ≡ true → kind_at (row_of named) root_rows ≡ ListOf (item_kind named)
unfolding root_rows
list_there ListName.lights h = absurd cc
list_there ListName.variants h = absurd cc
list_there named h = refl

-- the rule of documents looks at no list of items
rule_kept : (enabled : List (List ℕ)) (named : ListName) (x : Tree) (r : Root) (base : List Step)
    → root_rule enabled (put_at (row_of named) x (root_members r)) base ≡ root_rule enabled (root_members r) base
unfolding root_rows root_members
rule_kept enabled ListName.accessors x r base = refl
rule_kept enabled named x r base = refl

-- which members of a document may refer to an item of a list, in the order of the table
abbrev into : ListName → List Bool
into ListName.accessors = false ∷ true ∷ false ∷ false ∷ false ∷ false ∷ false ∷ false ∷ false ∷ false ∷ false ∷ false ∷ false ∷ true ∷ false ∷ false ∷ false ∷ true ∷ false ∷ []
into ListName.buffers = false ∷ false ∷ false ∷ false ∷ true ∷ false ∷ false ∷ false ∷ false ∷ false ∷ false ∷ false ∷ false ∷ false ∷ false ∷ false ∷ false ∷ false ∷ false ∷ []
into ListName.buffer_views = true ∷ false ∷ false ∷ false ∷ false ∷ false ∷ false ∷ false ∷ false ∷ false ∷ false ∷ true ∷ false ∷ false ∷ false ∷ false ∷ false ∷ false ∷ false ∷ []
into ListName.cameras = false ∷ false ∷ false ∷ false ∷ false ∷ false ∷ false ∷ false ∷ false ∷ false ∷ false ∷ false ∷ false ∷ false ∷ true ∷ false ∷ false ∷ false ∷ false ∷ []
into ListName.images = false ∷ false ∷ false ∷ false ∷ false ∷ false ∷ false ∷ false ∷ false ∷ false ∷ false ∷ false ∷ false ∷ false ∷ false ∷ false ∷ false ∷ false ∷ true ∷ []
into ListName.materials = false ∷ false ∷ false ∷ false ∷ false ∷ false ∷ false ∷ false ∷ false ∷ false ∷ false ∷ false ∷ false ∷ true ∷ false ∷ false ∷ false ∷ false ∷ false ∷ []
into ListName.meshes = false ∷ false ∷ false ∷ false ∷ false ∷ false ∷ false ∷ false ∷ false ∷ false ∷ false ∷ false ∷ false ∷ false ∷ true ∷ false ∷ false ∷ false ∷ false ∷ []
into ListName.nodes = false ∷ true ∷ false ∷ false ∷ false ∷ false ∷ false ∷ false ∷ false ∷ false ∷ false ∷ false ∷ false ∷ false ∷ true ∷ false ∷ true ∷ true ∷ false ∷ []
into ListName.samplers = false ∷ false ∷ false ∷ false ∷ false ∷ false ∷ false ∷ false ∷ false ∷ false ∷ false ∷ false ∷ false ∷ false ∷ false ∷ false ∷ false ∷ false ∷ true ∷ []
into ListName.scenes = false ∷ false ∷ false ∷ false ∷ false ∷ true ∷ false ∷ false ∷ false ∷ false ∷ false ∷ false ∷ false ∷ false ∷ false ∷ false ∷ false ∷ false ∷ false ∷ []
into ListName.skins = false ∷ false ∷ false ∷ false ∷ false ∷ false ∷ false ∷ false ∷ false ∷ false ∷ false ∷ false ∷ false ∷ false ∷ true ∷ false ∷ false ∷ false ∷ false ∷ []
into ListName.textures = false ∷ false ∷ false ∷ false ∷ false ∷ false ∷ false ∷ false ∷ false ∷ false ∷ false ∷ false ∷ true ∷ false ∷ false ∷ false ∷ false ∷ false ∷ false ∷ []
into named = false ∷ false ∷ false ∷ false ∷ false ∷ false ∷ false ∷ false ∷ false ∷ false ∷ false ∷ false ∷ false ∷ false ∷ false ∷ false ∷ false ∷ false ∷ false ∷ []

flags_are : (named : ListName) → is_member named ≡ true → flags named root_rows ≡ into named
unfolding root_rows root_extension_rows lights_rows variants_rows light_rows spot_rows variant_rows light_of_node_rows
    accessor_rows sparse_rows sparse_indices_rows sparse_values_rows buffer_rows view_rows image_rows
    material_rows pbr_metallic_roughness_rows normal_texture_rows occlusion_texture_rows material_extension_rows pbr_specular_glossiness_rows
    transmission_rows volume_rows specular_rows ior_rows emissive_strength_rows
    sampler_rows texture_rows texture_transform_rows info_extension_rows info_rows
    animation_rows animation_channel_rows animation_sampler_rows animation_target_rows asset_rows camera_rows orthographic_rows perspective_rows
    mesh_rows primitive_rows morph_target_rows primitive_extension_rows variant_mappings_rows variant_mapping_rows
    node_rows node_extension_rows scene_rows skin_rows
flags_are ListName.lights h = absurd cc
flags_are ListName.variants h = absurd cc
flags_are named h = refl

-- the reports of these members are those that are defined
defined : (rules : Rules) (named : ListName) (r : Root) → is_member named ≡ true
    → flagged_reports (into named) (root_members r) root_rows (under rules (root_tree r)) [] ≡ reports_into rules (root_tree r) named
unfolding root_rows root_members
defined rules ListName.lights r h = absurd cc
defined rules ListName.variants r h = absurd cc
defined rules ListName.accessors r h =
    let of = list_reports rules (root_tree r) in
    ap (λ rs. of ListName.animations ++ (of ListName.meshes ++ rs)) (append-nil (of ListName.skins))
defined rules ListName.animations r h = refl
defined rules ListName.buffers r h = append-nil (list_reports rules (root_tree r) ListName.buffer_views)
defined rules ListName.buffer_views r h =
    let of = list_reports rules (root_tree r) in
    ap (λ rs. of ListName.accessors ++ rs) (append-nil (of ListName.images))
defined rules ListName.cameras r h = append-nil (list_reports rules (root_tree r) ListName.nodes)
defined rules ListName.images r h = append-nil (list_reports rules (root_tree r) ListName.textures)
defined rules ListName.materials r h = append-nil (list_reports rules (root_tree r) ListName.meshes)
defined rules ListName.meshes r h = append-nil (list_reports rules (root_tree r) ListName.nodes)
defined rules ListName.nodes r h =
    let of = list_reports rules (root_tree r) in
    ap (λ rs. of ListName.animations ++ (of ListName.nodes ++ (of ListName.scenes ++ rs))) (append-nil (of ListName.skins))
defined rules ListName.samplers r h = append-nil (list_reports rules (root_tree r) ListName.textures)
defined rules ListName.scenes r h = append-nil (scene_reports rules (root_tree r))
defined rules ListName.skins r h = append-nil (list_reports rules (root_tree r) ListName.nodes)
defined rules ListName.textures r h = append-nil (list_reports rules (root_tree r) ListName.materials)

pub shorter_document : (rules : Rules) (named : ListName) (x : Tree) (r : Root) → is_member named ≡ true → document_reports rules (pushed named x (root_tree r)) ≡ []
    → document_reports rules (root_tree r) ≡ reports_into rules (root_tree r) named
shorter_document rules named x r is clean =
    let old = root_tree r in
    let new = pushed named x old in
    let ms = root_members r in
    let n = row_of named in
    let put = put_at n (with_item (further_way named) x (tree_at n ms)) ms in
    let members = member_reports put root_rows (under rules new) absent [] in
    let rule = root_rule rules.enabled put [] in
    let sound = (and_parts (suits requires_enabled root_rows) (are_sound root_rows) root_sound).1 in
    let long = subst (λ (way : Way). member_reports (put_at n (with_item way x (tree_at n ms)) ms) root_rows (under rules new) absent [] ≡ []) (no_way named is) (first_none members rule clean) in
    let ruled = sym (rule_kept rules.enabled named (with_item (further_way named) x (tree_at n ms)) r []) ∙ second_none members rule clean in
    ap (λ rs. member_reports ms root_rows (under rules old) absent [] ++ rs) ruled
    ∙ (append-nil (member_reports ms root_rows (under rules old) absent [])
    ∙ (shorter_kept rules named x old new (grows named x r) n ms root_rows (item_kind named) [] (λ e. sound) (list_there named is) long
    ∙ (ap (λ bs. flagged_reports bs ms root_rows (under rules old) []) (flags_are named is) ∙ defined rules named r is)))

-- ---- the first fault of two parts

abbrev pub or_fault : Option Error → Option Error → Option Error
or_fault None next = next
or_fault (Some error) next = Some error

pub first_of_both : (rs qs : List Report) → first_fault_of (rs ++ qs) ≡ or_fault (first_fault_of rs) (first_fault_of qs)
first_of_both [] qs = refl
first_of_both (r ∷ rs) qs = refl
