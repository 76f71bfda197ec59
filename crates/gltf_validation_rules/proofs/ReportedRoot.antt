-- Written by tools/derive.py from crates/gltf_root/specs/RootExtension.antt and
-- crates/gltf_root/specs/Root.antt. Do not edit.
use Rattle.gltf_root.specs.Root.{root_members, root_rows}
use Rattle.gltf_root.specs.RootExtension.{lights_members, lights_rows, root_extension_members, root_extension_rows, variants_members, variants_rows}
use Rattle.gltf_root.specs.declared.extensions.root.KhrLightsPunctual.{KhrLightsPunctual as Lights}
use Rattle.gltf_root.specs.declared.extensions.root.KhrMaterialsVariants.{KhrMaterialsVariants as Variants}
use Rattle.gltf_root.specs.declared.extensions.root.Root.{Root as RootExtension}
use Rattle.gltf_root.specs.declared.root.Root.{Root}
use Rattle.gltf_validation_rules.proofs.InvalidReported.{AreReported, invalid_reported}
use Rattle.gltf_validation_rules.proofs.ReportedParts.{accessor_reported, buffer_reported, image_reported, material_reported, sampler_reported, texture_reported, view_reported}
use Rattle.gltf_validation_rules.proofs.ReportedScene.{animation_reported, asset_reported, camera_reported, light_reported, mesh_reported, node_reported, scene_reported, skin_reported, variant_reported}

pub lights_reported : (v : Lights) → AreReported lights_rows (lights_members v)
unfolding lights_rows lights_members
lights_reported v = search (invalid_reported, light_reported) depth 40

pub variants_reported : (v : Variants) → AreReported variants_rows (variants_members v)
unfolding variants_rows variants_members
variants_reported v = search (invalid_reported, variant_reported) depth 40

pub root_extension_reported : (v : RootExtension) → AreReported root_extension_rows (root_extension_members v)
unfolding root_extension_rows root_extension_members
root_extension_reported v = search (invalid_reported, lights_reported, variants_reported) depth 40

pub root_reported : (v : Root) → AreReported root_rows (root_members v)
unfolding root_rows root_members
root_reported v = search (invalid_reported, accessor_reported, animation_reported, asset_reported, buffer_reported, view_reported, root_extension_reported, camera_reported, image_reported, material_reported, mesh_reported, node_reported, sampler_reported, scene_reported, skin_reported, texture_reported) depth 40 fits 8000
