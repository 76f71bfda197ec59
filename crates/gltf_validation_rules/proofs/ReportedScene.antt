-- Written by tools/derive.py from crates/gltf_scene/specs/Animation.antt,
-- crates/gltf_scene/specs/Asset.antt, crates/gltf_scene/specs/Light.antt,
-- crates/gltf_scene/specs/Camera.antt, crates/gltf_scene/specs/Mesh.antt and
-- crates/gltf_scene/specs/Scene.antt. Do not edit.
use Rattle.gltf_scene.specs.Animation.{animation_channel_members, animation_channel_rows, animation_members, animation_rows, animation_sampler_members, animation_sampler_rows, animation_target_members, animation_target_rows}
use Rattle.gltf_scene.specs.Asset.{asset_members, asset_rows}
use Rattle.gltf_scene.specs.Camera.{camera_members, camera_rows, orthographic_members, orthographic_rows, perspective_members, perspective_rows}
use Rattle.gltf_scene.specs.Light.{light_members, light_of_node_members, light_of_node_rows, light_rows, spot_members, spot_rows, variant_members, variant_rows}
use Rattle.gltf_scene.specs.Mesh.{mesh_members, mesh_rows, morph_target_members, morph_target_rows, primitive_extension_members, primitive_extension_rows, primitive_members, primitive_rows, variant_mapping_members, variant_mapping_rows, variant_mappings_members, variant_mappings_rows}
use Rattle.gltf_scene.specs.Scene.{node_extension_members, node_extension_rows, node_members, node_rows, scene_members, scene_rows, skin_members, skin_rows}
use Rattle.gltf_scene.specs.declared.animation.Animation.{Animation}
use Rattle.gltf_scene.specs.declared.animation.Channel.{Channel as AnimationChannel}
use Rattle.gltf_scene.specs.declared.animation.Sampler.{Sampler as AnimationSampler}
use Rattle.gltf_scene.specs.declared.animation.Target.{Target as AnimationTarget}
use Rattle.gltf_scene.specs.declared.asset.Asset.{Asset}
use Rattle.gltf_scene.specs.declared.camera.Camera.{Camera}
use Rattle.gltf_scene.specs.declared.camera.Orthographic.{Orthographic}
use Rattle.gltf_scene.specs.declared.camera.Perspective.{Perspective}
use Rattle.gltf_scene.specs.declared.extensions.mesh.KhrMaterialsVariants.{KhrMaterialsVariants as VariantMappings}
use Rattle.gltf_scene.specs.declared.extensions.mesh.Mapping.{Mapping as VariantMapping}
use Rattle.gltf_scene.specs.declared.extensions.mesh.Primitive.{Primitive as PrimitiveExtension}
use Rattle.gltf_scene.specs.declared.extensions.scene.Node.{Node as NodeExtension}
use Rattle.gltf_scene.specs.declared.extensions.scene.khr_lights_punctual.KhrLightsPunctual.{KhrLightsPunctual as LightOfNode}
use Rattle.gltf_scene.specs.declared.extensions.scene.khr_lights_punctual.Light.{Light}
use Rattle.gltf_scene.specs.declared.extensions.scene.khr_lights_punctual.Spot.{Spot}
use Rattle.gltf_scene.specs.declared.extensions.scene.khr_materials_variants.Variant.{Variant}
use Rattle.gltf_scene.specs.declared.mesh.Mesh.{Mesh}
use Rattle.gltf_scene.specs.declared.mesh.MorphTarget.{MorphTarget}
use Rattle.gltf_scene.specs.declared.mesh.Primitive.{Primitive}
use Rattle.gltf_scene.specs.declared.scene.Node.{Node}
use Rattle.gltf_scene.specs.declared.scene.Scene.{Scene}
use Rattle.gltf_scene.specs.declared.skin.Skin.{Skin}
use Rattle.gltf_validation_rules.proofs.InvalidReported.{AreReported, invalid_reported}

pub animation_sampler_reported : (v : AnimationSampler) → AreReported animation_sampler_rows (animation_sampler_members v)
unfolding animation_sampler_rows animation_sampler_members
animation_sampler_reported v = search invalid_reported depth 40

pub animation_target_reported : (v : AnimationTarget) → AreReported animation_target_rows (animation_target_members v)
unfolding animation_target_rows animation_target_members
animation_target_reported v = search invalid_reported depth 40

pub animation_channel_reported : (v : AnimationChannel) → AreReported animation_channel_rows (animation_channel_members v)
unfolding animation_channel_rows animation_channel_members
animation_channel_reported v = search (invalid_reported, animation_target_reported) depth 40

pub animation_reported : (v : Animation) → AreReported animation_rows (animation_members v)
unfolding animation_rows animation_members
animation_reported v = search (invalid_reported, animation_sampler_reported, animation_channel_reported) depth 40

pub asset_reported : (v : Asset) → AreReported asset_rows (asset_members v)
unfolding asset_rows asset_members
asset_reported v = search invalid_reported depth 40

pub spot_reported : (v : Spot) → AreReported spot_rows (spot_members v)
unfolding spot_rows spot_members
spot_reported v = search invalid_reported depth 40

pub light_reported : (v : Light) → AreReported light_rows (light_members v)
unfolding light_rows light_members
light_reported v = search (invalid_reported, spot_reported) depth 40

pub variant_reported : (v : Variant) → AreReported variant_rows (variant_members v)
unfolding variant_rows variant_members
variant_reported v = search invalid_reported depth 40

pub orthographic_reported : (v : Orthographic) → AreReported orthographic_rows (orthographic_members v)
unfolding orthographic_rows orthographic_members
orthographic_reported v = search invalid_reported depth 40

pub perspective_reported : (v : Perspective) → AreReported perspective_rows (perspective_members v)
unfolding perspective_rows perspective_members
perspective_reported v = search invalid_reported depth 40

pub camera_reported : (v : Camera) → AreReported camera_rows (camera_members v)
unfolding camera_rows camera_members
camera_reported v = search (invalid_reported, orthographic_reported, perspective_reported) depth 40

pub variant_mapping_reported : (v : VariantMapping) → AreReported variant_mapping_rows (variant_mapping_members v)
unfolding variant_mapping_rows variant_mapping_members
variant_mapping_reported v = search invalid_reported depth 40

pub variant_mappings_reported : (v : VariantMappings) → AreReported variant_mappings_rows (variant_mappings_members v)
unfolding variant_mappings_rows variant_mappings_members
variant_mappings_reported v = search (invalid_reported, variant_mapping_reported) depth 40

pub primitive_extension_reported : (v : PrimitiveExtension) → AreReported primitive_extension_rows (primitive_extension_members v)
unfolding primitive_extension_rows primitive_extension_members
primitive_extension_reported v = search (invalid_reported, variant_mappings_reported) depth 40

pub morph_target_reported : (v : MorphTarget) → AreReported morph_target_rows (morph_target_members v)
unfolding morph_target_rows morph_target_members
morph_target_reported v = search invalid_reported depth 40

pub primitive_reported : (v : Primitive) → AreReported primitive_rows (primitive_members v)
unfolding primitive_rows primitive_members
primitive_reported v = search (invalid_reported, primitive_extension_reported, morph_target_reported) depth 40

pub mesh_reported : (v : Mesh) → AreReported mesh_rows (mesh_members v)
unfolding mesh_rows mesh_members
mesh_reported v = search (invalid_reported, primitive_reported) depth 40

pub light_of_node_reported : (v : LightOfNode) → AreReported light_of_node_rows (light_of_node_members v)
unfolding light_of_node_rows light_of_node_members
light_of_node_reported v = search invalid_reported depth 40

pub node_extension_reported : (v : NodeExtension) → AreReported node_extension_rows (node_extension_members v)
unfolding node_extension_rows node_extension_members
node_extension_reported v = search (invalid_reported, light_of_node_reported) depth 40

pub node_reported : (v : Node) → AreReported node_rows (node_members v)
unfolding node_rows node_members
node_reported v = search (invalid_reported, node_extension_reported) depth 40

pub scene_reported : (v : Scene) → AreReported scene_rows (scene_members v)
unfolding scene_rows scene_members
scene_reported v = search invalid_reported depth 40

pub skin_reported : (v : Skin) → AreReported skin_rows (skin_members v)
unfolding skin_rows skin_members
skin_reported v = search invalid_reported depth 40
