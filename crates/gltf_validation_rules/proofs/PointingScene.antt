-- Written by tools/derive.py from crates/gltf_scene/specs/Animation.antt,
-- crates/gltf_scene/specs/Asset.antt, crates/gltf_scene/specs/Light.antt,
-- crates/gltf_scene/specs/Camera.antt, crates/gltf_scene/specs/Mesh.antt and
-- crates/gltf_scene/specs/Scene.antt. Do not edit.
use Rattle.gltf_scene.specs.Animation.{animation_channel_kind, animation_channel_rows, animation_kind, animation_rows, animation_sampler_kind, animation_sampler_rows, animation_target_kind, animation_target_rows}
use Rattle.gltf_scene.specs.Asset.{asset_kind, asset_rows}
use Rattle.gltf_scene.specs.Camera.{camera_kind, camera_rows, orthographic_kind, orthographic_rows, perspective_kind, perspective_rows}
use Rattle.gltf_scene.specs.Light.{light_kind, light_of_node_kind, light_of_node_rows, light_rows, spot_kind, spot_rows, variant_kind, variant_rows}
use Rattle.gltf_scene.specs.Mesh.{mesh_kind, mesh_rows, morph_target_kind, morph_target_rows, primitive_extension_rows, primitive_extensions_kind, primitive_kind, primitive_rows, variant_mapping_kind, variant_mapping_rows, variant_mappings_kind, variant_mappings_rows}
use Rattle.gltf_scene.specs.Scene.{node_extension_rows, node_extensions_kind, node_kind, node_rows, scene_kind, scene_rows, skin_kind, skin_rows}
use Rattle.gltf_validation_rules.proofs.Pointing.{fits}
use Rattle.std.proofs.Common.{refl, true, ◌≡◌}

pub animation_sampler_fits : fits animation_sampler_kind ≡ true
unfolding animation_sampler_rows
animation_sampler_fits = refl

pub animation_target_fits : fits animation_target_kind ≡ true
unfolding animation_target_rows
animation_target_fits = refl

pub animation_channel_fits : fits animation_channel_kind ≡ true
unfolding animation_channel_rows
animation_channel_fits = rw animation_target_fits refl

pub animation_fits : fits animation_kind ≡ true
unfolding animation_rows
animation_fits = rw (animation_sampler_fits, animation_channel_fits) refl

pub asset_fits : fits asset_kind ≡ true
unfolding asset_rows
asset_fits = refl

pub spot_fits : fits spot_kind ≡ true
unfolding spot_rows
spot_fits = refl

pub light_fits : fits light_kind ≡ true
unfolding light_rows
light_fits = rw spot_fits refl

pub variant_fits : fits variant_kind ≡ true
unfolding variant_rows
variant_fits = refl

pub orthographic_fits : fits orthographic_kind ≡ true
unfolding orthographic_rows
orthographic_fits = refl

pub perspective_fits : fits perspective_kind ≡ true
unfolding perspective_rows
perspective_fits = refl

pub camera_fits : fits camera_kind ≡ true
unfolding camera_rows
camera_fits = rw (orthographic_fits, perspective_fits) refl

pub variant_mapping_fits : fits variant_mapping_kind ≡ true
unfolding variant_mapping_rows
variant_mapping_fits = refl

pub variant_mappings_fits : fits variant_mappings_kind ≡ true
unfolding variant_mappings_rows
variant_mappings_fits = rw variant_mapping_fits refl

pub primitive_extension_fits : fits primitive_extensions_kind ≡ true
unfolding primitive_extension_rows
primitive_extension_fits = rw variant_mappings_fits refl

pub morph_target_fits : fits morph_target_kind ≡ true
unfolding morph_target_rows
morph_target_fits = refl

pub primitive_fits : fits primitive_kind ≡ true
unfolding primitive_rows
primitive_fits = rw (primitive_extension_fits, morph_target_fits) refl

pub mesh_fits : fits mesh_kind ≡ true
unfolding mesh_rows
mesh_fits = rw primitive_fits refl

pub light_of_node_fits : fits light_of_node_kind ≡ true
unfolding light_of_node_rows
light_of_node_fits = refl

pub node_extension_fits : fits node_extensions_kind ≡ true
unfolding node_extension_rows
node_extension_fits = rw light_of_node_fits refl

pub node_fits : fits node_kind ≡ true
unfolding node_rows
node_fits = rw node_extension_fits refl

pub scene_fits : fits scene_kind ≡ true
unfolding scene_rows
scene_fits = refl

pub skin_fits : fits skin_kind ≡ true
unfolding skin_rows
skin_fits = refl
