-- Written by tools/derive.py from crates/gltf_root/specs/Root.antt and
-- crates/gltf_root/src/root.rt. Do not edit.
use Rattle.gltf_parts.specs.AccessorDerived.{accessor_height, accessor_sound}
use Rattle.gltf_parts.specs.BufferDerived.{buffer_height, buffer_sound, view_height, view_sound}
use Rattle.gltf_parts.specs.ImageDerived.{image_height, image_sound}
use Rattle.gltf_parts.specs.MaterialDerived.{material_height, material_sound}
use Rattle.gltf_parts.specs.TextureDerived.{sampler_height, sampler_sound, texture_height, texture_sound}
use Rattle.gltf_root.specs.Root.{root_kind, root_rows}
use Rattle.gltf_root.specs.RootExtensionDerived.{root_extension_height, root_extension_sound}
use Rattle.gltf_scene.specs.AnimationDerived.{animation_height, animation_sound}
use Rattle.gltf_scene.specs.AssetDerived.{asset_height, asset_sound}
use Rattle.gltf_scene.specs.CameraDerived.{camera_height, camera_sound}
use Rattle.gltf_scene.specs.MeshDerived.{mesh_height, mesh_sound}
use Rattle.gltf_scene.specs.SceneDerived.{node_height, node_sound, scene_height, scene_sound, skin_height, skin_sound}
use Rattle.gltf_schema.specs.Height.{IsHigh}
use Rattle.gltf_schema.specs.Sound.{is_sound}
use Rattle.std.specs.Prelude.{refl, true, ◌≡◌}

pub root_sound : is_sound root_kind ≡ true
unfolding root_rows
root_sound = rw (accessor_sound, animation_sound, asset_sound, buffer_sound, view_sound, root_extension_sound, camera_sound, image_sound, material_sound, mesh_sound, node_sound, sampler_sound, scene_sound, skin_sound, texture_sound) refl

pub root_height : IsHigh 7 root_kind
unfolding root_rows
root_height = rw (accessor_height.0, accessor_height.1, animation_height.0, animation_height.1, asset_height.0, buffer_height.0, view_height.0, view_height.1, root_extension_height.0, root_extension_height.1, camera_height.0, camera_height.1, image_height.0, image_height.1, material_height.0, material_height.1, mesh_height.0, mesh_height.1, node_height.0, node_height.1, sampler_height.0, sampler_height.1, scene_height.0, scene_height.1, skin_height.0, skin_height.1, texture_height.0, texture_height.1) (refl, refl)
