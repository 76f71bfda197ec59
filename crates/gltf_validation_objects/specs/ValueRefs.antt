-- Written by tools/derive.py from the rows and the structs of all objects and
-- tools/derive_exceptions.py. Do not edit.
use Rattle.gltf_base.specs.Lists.{ListName}
use Rattle.gltf_parts.specs.Accessor.{accessor_kind, accessor_members, sparse_indices_kind, sparse_indices_members, sparse_kind, sparse_members, sparse_values_kind, sparse_values_members}
use Rattle.gltf_parts.specs.Buffer.{view_kind, view_members}
use Rattle.gltf_parts.specs.Image.{image_kind, image_members}
use Rattle.gltf_parts.specs.Material.{material_extensions, material_kind, material_members}
use Rattle.gltf_parts.specs.Texture.{sampler_kind, sampler_members, texture_kind, texture_members}
use Rattle.gltf_root.specs.Root.{root_kind, root_tree}
use Rattle.gltf_root.specs.RootExtension.{lights_kind, lights_members, root_extensions, root_extensions_kind}
use Rattle.gltf_scene.specs.Animation.{animation_channel_kind, animation_channel_members, animation_kind, animation_members, animation_sampler_kind, animation_sampler_members, animation_target_kind, animation_target_members}
use Rattle.gltf_scene.specs.Camera.{camera_kind, camera_members}
use Rattle.gltf_scene.specs.Light.{light_kind, light_members, light_of_node_kind, light_of_node_members}
use Rattle.gltf_scene.specs.Mesh.{mesh_kind, mesh_members, morph_target_kind, morph_target_members, primitive_kind, primitive_members}
use Rattle.gltf_scene.specs.Scene.{node_extensions, node_extensions_kind, node_kind, node_members, scene_kind, scene_members, skin_kind, skin_members}
use Rattle.gltf_schema.specs.Fields.{attributes_tree, closed_object, index_tree, list_tree, text_tree}
use Rattle.gltf_schema.specs.Kind.{Attributes, IndexInto, ListOf}
use Rattle.gltf_schema.specs.Tree.{absent, items_in}
use Rattle.gltf_validation_objects.specs.Checklist.{Checklist, leaf, place}
use Rattle.gltf_validation_objects.specs.ChecklistOf.{at_positions, checklist, entry_checklist, faults_checklist, item_checklists, name_checklist}
use Rattle.gltf_validation_objects.specs.References.{extensions_checklist, material_checklist, one_texture, reference_checklist, two_textures}
use Rattle.gltf_validation_rules.specs.Context.{Context}
use Rattle.std.specs.Prelude.{Bool, None, Some, [], false, true, ⊤}
use Rattle.gltf_validation_objects.specs.declared.value_ref.ValueRef.{ValueRef}
use Rattle.gltf_validation_objects.specs.declared.value_ref.ValueRef.TheVariants as value_ref

-- the checklist of a value, in a context
abbrev pub checklist_of : Context → ValueRef → Checklist
checklist_of context (value_ref.Leaf e) = leaf e
checklist_of context (value_ref.RequiredExtensions xs) = place (item_checklists (name_checklist context.rules.enabled) 0 (items_in (list_tree text_tree xs.now.items))) []
checklist_of context (value_ref.RequiredExtension x) = name_checklist context.rules.enabled (text_tree x.now)
checklist_of context (value_ref.Channels a) = checklist (ListOf animation_channel_kind) (list_tree (λ x. closed_object (animation_channel_members x)) a.now.channels.items) context (closed_object (animation_members a.now))
checklist_of context (value_ref.Channel x a) = checklist animation_channel_kind (closed_object (animation_channel_members x.now)) context (closed_object (animation_members a.now))
checklist_of context (value_ref.Material (Some m) e) = material_checklist context m (material_extensions e.now)
checklist_of context (value_ref.Material None e) = extensions_checklist context (material_extensions e.now)
checklist_of context (value_ref.PlainMaterial m) = material_checklist context m absent
checklist_of context (value_ref.TextureReference s) = reference_checklist s
checklist_of context (value_ref.OneTexture s n) = one_texture s n
checklist_of context (value_ref.TwoTextures s r n m) = two_textures s r n m
checklist_of context (value_ref.Attributes m) = checklist (Attributes ListName.accessors) (attributes_tree m.now) context absent
checklist_of context (value_ref.Attribute k i) = entry_checklist k i
checklist_of context (value_ref.AtPositions f) = at_positions (faults_checklist f)
checklist_of context (value_ref.Positions f) = faults_checklist f
checklist_of context (value_ref.NodeIndexes xs) = checklist (ListOf (IndexInto ListName.nodes)) (list_tree index_tree xs.now.items) context absent
checklist_of context (value_ref.SparseIndices x) = checklist sparse_indices_kind (closed_object (sparse_indices_members x.now)) context absent
checklist_of context (value_ref.SparseValues x) = checklist sparse_values_kind (closed_object (sparse_values_members x.now)) context absent
checklist_of context (value_ref.Sparse x) = checklist sparse_kind (closed_object (sparse_members x.now)) context absent
checklist_of context (value_ref.Accessors xs) = checklist (ListOf accessor_kind) (list_tree (λ x. closed_object (accessor_members x)) xs.now.items) context absent
checklist_of context (value_ref.Accessor x) = checklist accessor_kind (closed_object (accessor_members x.now)) context absent
checklist_of context (value_ref.Views xs) = checklist (ListOf view_kind) (list_tree (λ x. closed_object (view_members x)) xs.now.items) context absent
checklist_of context (value_ref.View x) = checklist view_kind (closed_object (view_members x.now)) context absent
checklist_of context (value_ref.Images xs) = checklist (ListOf image_kind) (list_tree (λ x. closed_object (image_members x)) xs.now.items) context absent
checklist_of context (value_ref.Image x) = checklist image_kind (closed_object (image_members x.now)) context absent
checklist_of context (value_ref.Materials xs) = checklist (ListOf material_kind) (list_tree (λ x. closed_object (material_members x)) xs.now.items) context absent
checklist_of context (value_ref.Samplers xs) = checklist (ListOf sampler_kind) (list_tree (λ x. closed_object (sampler_members x)) xs.now.items) context absent
checklist_of context (value_ref.Sampler x) = checklist sampler_kind (closed_object (sampler_members x.now)) context absent
checklist_of context (value_ref.Textures xs) = checklist (ListOf texture_kind) (list_tree (λ x. closed_object (texture_members x)) xs.now.items) context absent
checklist_of context (value_ref.Texture x) = checklist texture_kind (closed_object (texture_members x.now)) context absent
checklist_of context (value_ref.Root x) = checklist root_kind (root_tree x.now) context absent
checklist_of context (value_ref.RootLights x) = checklist lights_kind (closed_object (lights_members x.now)) context absent
checklist_of context (value_ref.RootExtensions x) = checklist root_extensions_kind (root_extensions x.now) context absent
checklist_of context (value_ref.AnimationSamplers xs) = checklist (ListOf animation_sampler_kind) (list_tree (λ x. closed_object (animation_sampler_members x)) xs.now.items) context absent
checklist_of context (value_ref.AnimationSampler x) = checklist animation_sampler_kind (closed_object (animation_sampler_members x.now)) context absent
checklist_of context (value_ref.AnimationTarget x) = checklist animation_target_kind (closed_object (animation_target_members x.now)) context absent
checklist_of context (value_ref.Animations xs) = checklist (ListOf animation_kind) (list_tree (λ x. closed_object (animation_members x)) xs.now.items) context absent
checklist_of context (value_ref.Animation x) = checklist animation_kind (closed_object (animation_members x.now)) context absent
checklist_of context (value_ref.Cameras xs) = checklist (ListOf camera_kind) (list_tree (λ x. closed_object (camera_members x)) xs.now.items) context absent
checklist_of context (value_ref.Camera x) = checklist camera_kind (closed_object (camera_members x.now)) context absent
checklist_of context (value_ref.NodeLight x) = checklist light_of_node_kind (closed_object (light_of_node_members x.now)) context absent
checklist_of context (value_ref.Lights xs) = checklist (ListOf light_kind) (list_tree (λ x. closed_object (light_members x)) xs.now.items) context absent
checklist_of context (value_ref.Light x) = checklist light_kind (closed_object (light_members x.now)) context absent
checklist_of context (value_ref.MorphTargets xs) = checklist (ListOf morph_target_kind) (list_tree (λ x. closed_object (morph_target_members x)) xs.now.items) context absent
checklist_of context (value_ref.MorphTarget x) = checklist morph_target_kind (closed_object (morph_target_members x.now)) context absent
checklist_of context (value_ref.Primitives xs) = checklist (ListOf primitive_kind) (list_tree (λ x. closed_object (primitive_members x)) xs.now.items) context absent
checklist_of context (value_ref.Primitive x) = checklist primitive_kind (closed_object (primitive_members x.now)) context absent
checklist_of context (value_ref.Meshes xs) = checklist (ListOf mesh_kind) (list_tree (λ x. closed_object (mesh_members x)) xs.now.items) context absent
checklist_of context (value_ref.Mesh x) = checklist mesh_kind (closed_object (mesh_members x.now)) context absent
checklist_of context (value_ref.NodeExtensions x) = checklist node_extensions_kind (node_extensions x.now) context absent
checklist_of context (value_ref.Nodes xs) = checklist (ListOf node_kind) (list_tree (λ x. closed_object (node_members x)) xs.now.items) context absent
checklist_of context (value_ref.Node x) = checklist node_kind (closed_object (node_members x.now)) context absent
checklist_of context (value_ref.Scenes xs) = checklist (ListOf scene_kind) (list_tree (λ x. closed_object (scene_members x)) xs.now.items) context absent
checklist_of context (value_ref.Scene x) = checklist scene_kind (closed_object (scene_members x.now)) context absent
checklist_of context (value_ref.Skins xs) = checklist (ListOf skin_kind) (list_tree (λ x. closed_object (skin_members x)) xs.now.items) context absent
checklist_of context (value_ref.Skin x) = checklist skin_kind (closed_object (skin_members x.now)) context absent

-- a value whose moves are numbered; attributes are gone through by their keys
abbrev pub IsNumbered : ValueRef → Type 0
IsNumbered (value_ref.Attributes m) = ⊥
IsNumbered _ = ⊤

-- ---- what a walk looks at

-- a value that holds all its faults; materials are looked at as items of a list
abbrev pub is_found : ValueRef → Bool
is_found (value_ref.Leaf e) = true
is_found (value_ref.TextureReference s) = true
is_found (value_ref.OneTexture s n) = true
is_found (value_ref.TwoTextures s r n m) = true
is_found (value_ref.Attribute k i) = true
is_found (value_ref.AtPositions f) = true
is_found (value_ref.Positions f) = true
is_found _ = false

-- an item of a list, or a value that holds all its faults
abbrev pub is_looked_at : ValueRef → Bool
is_looked_at (value_ref.RequiredExtension x) = true
is_looked_at (value_ref.Channel x a) = true
is_looked_at (value_ref.Material (Some m) e) = true
is_looked_at (value_ref.PlainMaterial m) = true
is_looked_at (value_ref.Accessor x) = true
is_looked_at (value_ref.View x) = true
is_looked_at (value_ref.Image x) = true
is_looked_at (value_ref.Sampler x) = true
is_looked_at (value_ref.Texture x) = true
is_looked_at (value_ref.AnimationSampler x) = true
is_looked_at (value_ref.Animation x) = true
is_looked_at (value_ref.Camera x) = true
is_looked_at (value_ref.Light x) = true
is_looked_at (value_ref.MorphTarget x) = true
is_looked_at (value_ref.Primitive x) = true
is_looked_at (value_ref.Mesh x) = true
is_looked_at (value_ref.Node x) = true
is_looked_at (value_ref.Scene x) = true
is_looked_at (value_ref.Skin x) = true
is_looked_at v = is_found v
