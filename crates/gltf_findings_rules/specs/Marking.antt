-- Which items others name.
use Rattle.std.specs.Prelude.{ℕ, List, [], ◌∷◌, Bool, if◌then◌else◌, is_none, Option, Some, None}
use Rattle.std.specs.Global.{Vec}
use Rattle.gltf_base.specs.Indexes.{index_number}
use Rattle.gltf_base.specs.Keys.{Key}
use Rattle.gltf_parts.specs.declared.accessor.Accessor.{Accessor}
use Rattle.gltf_parts.specs.declared.accessor.sparse.Sparse.{Sparse}
use Rattle.gltf_scene.specs.declared.animation.Animation.{Animation}
use Rattle.gltf_scene.specs.declared.animation.Sampler.{Sampler}
use Rattle.gltf_scene.specs.declared.mesh.Mesh.{Mesh}
use Rattle.gltf_scene.specs.declared.mesh.MorphTarget.{MorphTarget}
use Rattle.gltf_scene.specs.declared.extensions.mesh.Primitive.{Primitive as Extension}
use Rattle.gltf_scene.specs.declared.extensions.mesh.KhrMaterialsVariants.{KhrMaterialsVariants as Variants}
use Rattle.gltf_scene.specs.declared.scene.Node.{Node}
use Rattle.gltf_findings_codes.specs.Attributes.{attributes_in}
use Rattle.gltf_findings_codes.specs.Marks.{mark, mark_some}

-- the marks when those of all items are added
abbrev pub marked_by : {X : Type 0} → (X → List Bool → List Bool) → List X → List Bool → List Bool
marked_by f [] marks = marks
marked_by f (x ∷ xs) marks = marked_by f xs (f x marks)

abbrev pub sparse_marks : Option Sparse → List Bool → List Bool
sparse_marks None marks = marks
sparse_marks (Some s) marks = mark (mark marks (index_number s.indices.buffer_view)) (index_number s.values.buffer_view)

-- the buffer views of an accessor
abbrev pub view_marks : Accessor → List Bool → List Bool
view_marks a marks = sparse_marks a.sparse (mark_some marks a.buffer_view)

-- the accessors of attributes
abbrev pub entry_marks : List (Key × ℕ) → List Bool → List Bool
entry_marks [] marks = marks
entry_marks (e ∷ es) marks = entry_marks es (mark marks e.1)

abbrev pub target_marks : MorphTarget → List Bool → List Bool
target_marks t marks = mark_some (mark_some (mark_some marks t.positions) t.normals) t.tangents

abbrev pub targets_marks : Option (Vec MorphTarget) → List Bool → List Bool
targets_marks None marks = marks
targets_marks (Some ts) marks = marked_by target_marks ts.items marks

abbrev pub mesh_attribute_marks : Mesh → List Bool → List Bool
mesh_attribute_marks m = marked_by (λ p marks. entry_marks (attributes_in p.attributes) marks) m.primitives.items

abbrev pub mesh_target_marks : Mesh → List Bool → List Bool
mesh_target_marks m = marked_by (λ p marks. targets_marks p.targets marks) m.primitives.items

abbrev pub mesh_index_marks : Mesh → List Bool → List Bool
mesh_index_marks m = marked_by (λ p marks. mark_some marks p.indices) m.primitives.items

abbrev pub mapping_marks : Option Variants → List Bool → List Bool
mapping_marks None marks = marks
mapping_marks (Some v) marks = marked_by (λ x marks. mark marks x.material) v.mappings.items marks

-- the materials of the variants of a primitive
abbrev pub variant_marks : Option Extension → List Bool → List Bool
variant_marks None marks = marks
variant_marks (Some e) marks = mapping_marks e.khr_materials_variants marks

abbrev pub mesh_material_marks : Mesh → List Bool → List Bool
mesh_material_marks m = marked_by (λ p marks. variant_marks p.extensions (mark_some marks p.material)) m.primitives.items

abbrev pub sampler_marks : Sampler → List Bool → List Bool
sampler_marks s marks = mark (mark marks (index_number s.input)) (index_number s.output)

abbrev pub animation_marks : Animation → List Bool → List Bool
animation_marks a = marked_by sampler_marks a.samplers.items

-- the mesh of a node that defines no weights
abbrev pub default_weight_marks : Node → List Bool → List Bool
default_weight_marks x marks = if is_none x.weights then mark_some marks x.mesh else marks
