-- Written by tools/derive.py from crates/gltf_parts/specs/Material.antt and
-- crates/gltf_parts/src/material.rt. Do not edit.
use Rattle.gltf_parts.specs.Material.{material_kind, material_rows, normal_texture_kind, normal_texture_rows, occlusion_texture_kind, occlusion_texture_rows, pbr_metallic_roughness_kind, pbr_metallic_roughness_rows}
use Rattle.gltf_parts.specs.MaterialExtensionDerived.{material_extension_height, material_extension_sound}
use Rattle.gltf_parts.specs.TextureDerived.{info_height, info_sound}
use Rattle.gltf_schema.specs.Height.{IsHigh}
use Rattle.gltf_schema.specs.Nulls.{without_nulls}
use Rattle.gltf_schema.specs.Sound.{is_sound}
use Rattle.std.specs.Prelude.{refl, true, ◌≡◌}

pub pbr_metallic_roughness_sound : is_sound pbr_metallic_roughness_kind ≡ true
unfolding pbr_metallic_roughness_rows
pbr_metallic_roughness_sound = rw info_sound refl

pub normal_texture_sound : is_sound normal_texture_kind ≡ true
unfolding normal_texture_rows
normal_texture_sound = refl

pub normal_texture_no_nulls : without_nulls normal_texture_kind ≡ normal_texture_kind
unfolding normal_texture_rows
normal_texture_no_nulls = refl

pub occlusion_texture_sound : is_sound occlusion_texture_kind ≡ true
unfolding occlusion_texture_rows
occlusion_texture_sound = refl

pub occlusion_texture_no_nulls : without_nulls occlusion_texture_kind ≡ occlusion_texture_kind
unfolding occlusion_texture_rows
occlusion_texture_no_nulls = refl

pub material_sound : is_sound material_kind ≡ true
unfolding material_rows pbr_metallic_roughness_rows
material_sound = rw (info_sound, normal_texture_sound, occlusion_texture_sound, material_extension_sound) refl

pub pbr_metallic_roughness_height : IsHigh 2 pbr_metallic_roughness_kind
unfolding pbr_metallic_roughness_rows
pbr_metallic_roughness_height = rw (info_height.0, info_height.1) (refl, refl)

pub normal_texture_height : IsHigh 1 normal_texture_kind
unfolding normal_texture_rows
normal_texture_height = (refl, refl)

pub occlusion_texture_height : IsHigh 1 occlusion_texture_kind
unfolding occlusion_texture_rows
occlusion_texture_height = (refl, refl)

pub material_height : IsHigh 4 material_kind
unfolding material_rows
material_height = rw (pbr_metallic_roughness_height.0, pbr_metallic_roughness_height.1, normal_texture_height.0, normal_texture_height.1, occlusion_texture_height.0, occlusion_texture_height.1, info_height.0, info_height.1, material_extension_height.0, material_extension_height.1) (refl, refl)
