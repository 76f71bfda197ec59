-- What items of a document are used for (glTF 2.0, section 3.6), and items that nothing uses.
use Rattle.std.specs.Prelude.{ℕ, List, [], ◌++◌, Bool, false, replicate, length, if◌then◌else◌}
use Rattle.gltf_base.specs.Indexes.{index_number}
use Rattle.gltf_root.specs.declared.root.Root.{Root}
use Rattle.gltf_findings_codes.specs.declared.name.Name.TheVariants as name
use Rattle.gltf_findings_codes.specs.declared.finding.Finding.{Finding}
use Rattle.gltf_findings_codes.specs.Found.{findings_from}
use Rattle.gltf_findings_codes.specs.Marks.{mark, mark_some}
use Rattle.gltf_findings.specs.ExtensionNames.{are_supported}
use Rattle.gltf_findings_rules.specs.Marking.{marked_by, view_marks as views_of_accessor, mesh_attribute_marks, mesh_target_marks, mesh_index_marks, mesh_material_marks, animation_marks, default_weight_marks}
use Rattle.gltf_findings_rules.specs.Surfaces.{material_marks as textures_of}
use Rattle.gltf_findings_rules.specs.Sharing.{views_of, shared_views}
use Rattle.gltf_findings_rules.specs.Unused.{unused_findings, weight_findings}
use Rattle.gltf_findings_rules.specs.Usage.{usage_findings as accessor_usage_findings, view_usage_findings}

-- the items of a list when nothing names them
abbrev pub none_of : {X : Type 0} → List X → List Bool
none_of xs = replicate (length xs) false

abbrev pub attribute_marks : Root → List Bool
attribute_marks r = marked_by mesh_attribute_marks r.meshes.items (none_of r.accessors.items)

abbrev pub index_marks : Root → List Bool
index_marks r = marked_by mesh_index_marks r.meshes.items (none_of r.accessors.items)

abbrev pub accessor_marks : Root → List Bool
accessor_marks r = marked_by animation_marks r.animations.items (marked_by (λ x marks. mark_some marks x.inverse_bind_matrices) r.skins.items (marked_by mesh_index_marks r.meshes.items (marked_by mesh_target_marks r.meshes.items (attribute_marks r))))

abbrev pub view_marks : Root → List Bool
view_marks r = marked_by (λ x marks. mark_some marks x.buffer_view) r.images.items (marked_by views_of_accessor r.accessors.items (none_of r.buffer_views.items))

abbrev pub buffer_marks : Root → List Bool
buffer_marks r = marked_by (λ x marks. mark marks (index_number x.buffer)) r.buffer_views.items (none_of r.buffers.items)

abbrev pub image_marks : Root → List Bool
image_marks r = marked_by (λ x marks. mark marks (index_number x.source)) r.textures.items (none_of r.images.items)

abbrev pub sampler_marks : Root → List Bool
sampler_marks r = marked_by (λ x marks. mark_some marks x.sampler) r.textures.items (none_of r.samplers.items)

abbrev pub texture_marks : Root → List Bool
texture_marks r = marked_by textures_of r.materials.items (none_of r.textures.items)

abbrev pub material_marks : Root → List Bool
material_marks r = marked_by mesh_material_marks r.meshes.items (none_of r.materials.items)

abbrev pub camera_marks : Root → List Bool
camera_marks r = marked_by (λ x marks. mark_some marks x.camera) r.nodes.items (none_of r.cameras.items)

abbrev pub mesh_marks : Root → List Bool
mesh_marks r = marked_by (λ x marks. mark_some marks x.mesh) r.nodes.items (none_of r.meshes.items)

abbrev pub default_marks : Root → List Bool
default_marks r = marked_by default_weight_marks r.nodes.items (none_of r.meshes.items)

abbrev pub skin_marks : Root → List Bool
skin_marks r = marked_by (λ x marks. mark_some marks x.skin) r.nodes.items (none_of r.skins.items)

-- the views that the accessors with marks name
abbrev pub views_with : Root → List Bool → List Bool
views_with r chosen = views_of chosen 0 r.accessors.items (none_of r.buffer_views.items)

abbrev pub shared_with : Root → List Bool → List Bool
shared_with r chosen = shared_views chosen 0 r.accessors.items (none_of r.buffer_views.items) (none_of r.buffer_views.items)

-- accessors and views by the attributes and indices that name them
abbrev pub usage_findings : Root → List Finding
usage_findings r =
    findings_from (λ n x. accessor_usage_findings (attribute_marks r) (index_marks r) n) 0 r.accessors.items
    ++ findings_from (view_usage_findings (views_with r (attribute_marks r)) (views_with r (index_marks r)) (shared_with r (attribute_marks r))) 0 r.buffer_views.items

abbrev pub stored_use_findings : Root → List Finding
stored_use_findings r =
    findings_from (λ n x. unused_findings name.Accessors (accessor_marks r) n) 0 r.accessors.items
    ++ findings_from (λ n x. unused_findings name.Buffers (buffer_marks r) n) 0 r.buffers.items
    ++ findings_from (λ n x. unused_findings name.BufferViews (view_marks r) n) 0 r.buffer_views.items

abbrev pub shown_use_findings : Root → List Finding
shown_use_findings r =
    findings_from (λ n x. unused_findings name.Images (image_marks r) n) 0 r.images.items
    ++ findings_from (λ n x. unused_findings name.Materials (material_marks r) n) 0 r.materials.items
    ++ findings_from (λ n x. unused_findings name.Samplers (sampler_marks r) n) 0 r.samplers.items
    ++ findings_from (λ n x. unused_findings name.Textures (texture_marks r) n) 0 r.textures.items

abbrev pub placed_use_findings : Root → List Finding
placed_use_findings r =
    findings_from (λ n x. unused_findings name.Cameras (camera_marks r) n) 0 r.cameras.items
    ++ findings_from (λ n x. unused_findings name.Meshes (mesh_marks r) n) 0 r.meshes.items
    ++ findings_from (weight_findings (mesh_marks r) (default_marks r)) 0 r.meshes.items
    ++ findings_from (λ n x. unused_findings name.Skins (skin_marks r) n) 0 r.skins.items

abbrev pub unused_in : Root → List Finding
unused_in r = stored_use_findings r ++ shown_use_findings r ++ placed_use_findings r

-- an extension that the rules don't know may name any item
abbrev pub use_findings : Root → List Finding
use_findings r = usage_findings r ++ (if are_supported r.extensions_used.items then unused_in r else [])
