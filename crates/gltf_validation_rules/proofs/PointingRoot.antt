-- Written by tools/derive.py from crates/gltf_root/specs/RootExtension.antt and
-- crates/gltf_root/specs/Root.antt. Do not edit.
use Rattle.gltf_root.specs.Root.{root_kind, root_rows}
use Rattle.gltf_root.specs.RootExtension.{lights_kind, lights_rows, root_extension_rows, root_extensions_kind, variants_kind, variants_rows}
use Rattle.gltf_validation_rules.proofs.Pointing.{fits}
use Rattle.gltf_validation_rules.proofs.PointingParts.{accessor_fits, buffer_fits, image_fits, material_fits, sampler_fits, texture_fits, view_fits}
use Rattle.gltf_validation_rules.proofs.PointingScene.{animation_fits, asset_fits, camera_fits, light_fits, mesh_fits, node_fits, scene_fits, skin_fits, variant_fits}
use Rattle.std.proofs.Common.{refl, true, ◌≡◌}

pub lights_fits : fits lights_kind ≡ true
unfolding lights_rows
lights_fits = rw light_fits refl

pub variants_fits : fits variants_kind ≡ true
unfolding variants_rows
variants_fits = rw variant_fits refl

pub root_extension_fits : fits root_extensions_kind ≡ true
unfolding root_extension_rows
root_extension_fits = rw (lights_fits, variants_fits) refl

pub root_fits : fits root_kind ≡ true
unfolding root_rows
root_fits = rw (accessor_fits, animation_fits, asset_fits, buffer_fits, view_fits, root_extension_fits, camera_fits, image_fits, material_fits, mesh_fits, node_fits, sampler_fits, scene_fits, skin_fits, texture_fits) refl
