-- Written by tools/derive.py from crates/gltf_parts/specs/Accessor.antt,
-- crates/gltf_parts/specs/Buffer.antt, crates/gltf_parts/specs/Image.antt,
-- crates/gltf_parts/specs/Texture.antt, crates/gltf_parts/specs/Material.antt and
-- crates/gltf_parts/specs/MaterialExtension.antt. Do not edit.
use Rattle.gltf_parts.specs.Accessor.{accessor_kind, accessor_rows, sparse_indices_kind, sparse_indices_rows, sparse_kind, sparse_rows, sparse_values_kind, sparse_values_rows}
use Rattle.gltf_parts.specs.Buffer.{buffer_kind, buffer_rows, view_kind, view_rows}
use Rattle.gltf_parts.specs.Image.{image_kind, image_rows}
use Rattle.gltf_parts.specs.Material.{material_kind, material_rows, normal_texture_kind, normal_texture_rows, occlusion_texture_kind, occlusion_texture_rows, pbr_metallic_roughness_kind, pbr_metallic_roughness_rows}
use Rattle.gltf_parts.specs.MaterialExtension.{emissive_strength_kind, emissive_strength_rows, ior_kind, ior_rows, material_extension_rows, material_extensions_kind, pbr_specular_glossiness_kind, pbr_specular_glossiness_rows, specular_kind, specular_rows, transmission_kind, transmission_rows, volume_kind, volume_rows}
use Rattle.gltf_parts.specs.Texture.{info_extension_rows, info_extensions_kind, info_kind, info_rows, sampler_kind, sampler_rows, texture_kind, texture_rows, texture_transform_kind, texture_transform_rows}
use Rattle.gltf_validation_rules.proofs.Pointing.{fits}
use Rattle.std.proofs.Common.{refl, true, ◌≡◌}

pub sparse_indices_fits : fits sparse_indices_kind ≡ true
unfolding sparse_indices_rows
sparse_indices_fits = refl

pub sparse_values_fits : fits sparse_values_kind ≡ true
unfolding sparse_values_rows
sparse_values_fits = refl

pub sparse_fits : fits sparse_kind ≡ true
unfolding sparse_rows
sparse_fits = rw (sparse_indices_fits, sparse_values_fits) refl

pub accessor_fits : fits accessor_kind ≡ true
unfolding accessor_rows
accessor_fits = rw sparse_fits refl

pub buffer_fits : fits buffer_kind ≡ true
unfolding buffer_rows
buffer_fits = refl

pub view_fits : fits view_kind ≡ true
unfolding view_rows
view_fits = refl

pub image_fits : fits image_kind ≡ true
unfolding image_rows
image_fits = refl

pub texture_transform_fits : fits texture_transform_kind ≡ true
unfolding texture_transform_rows
texture_transform_fits = refl

pub info_extension_fits : fits info_extensions_kind ≡ true
unfolding info_extension_rows
info_extension_fits = rw texture_transform_fits refl

pub info_fits : fits info_kind ≡ true
unfolding info_rows
info_fits = rw info_extension_fits refl

pub pbr_metallic_roughness_fits : fits pbr_metallic_roughness_kind ≡ true
unfolding pbr_metallic_roughness_rows
pbr_metallic_roughness_fits = rw info_fits refl

pub normal_texture_fits : fits normal_texture_kind ≡ true
unfolding normal_texture_rows
normal_texture_fits = refl

pub occlusion_texture_fits : fits occlusion_texture_kind ≡ true
unfolding occlusion_texture_rows
occlusion_texture_fits = refl

pub pbr_specular_glossiness_fits : fits pbr_specular_glossiness_kind ≡ true
unfolding pbr_specular_glossiness_rows
pbr_specular_glossiness_fits = rw info_fits refl

pub transmission_fits : fits transmission_kind ≡ true
unfolding transmission_rows
transmission_fits = rw info_fits refl

pub volume_fits : fits volume_kind ≡ true
unfolding volume_rows
volume_fits = rw info_fits refl

pub specular_fits : fits specular_kind ≡ true
unfolding specular_rows
specular_fits = rw info_fits refl

pub ior_fits : fits ior_kind ≡ true
unfolding ior_rows
ior_fits = refl

pub emissive_strength_fits : fits emissive_strength_kind ≡ true
unfolding emissive_strength_rows
emissive_strength_fits = refl

pub material_extension_fits : fits material_extensions_kind ≡ true
unfolding material_extension_rows
material_extension_fits = rw (pbr_specular_glossiness_fits, transmission_fits, volume_fits, specular_fits, ior_fits, emissive_strength_fits) refl

pub material_fits : fits material_kind ≡ true
unfolding material_rows pbr_metallic_roughness_rows
material_fits = rw (info_fits, normal_texture_fits, occlusion_texture_fits, material_extension_fits) refl

pub sampler_fits : fits sampler_kind ≡ true
unfolding sampler_rows
sampler_fits = refl

pub texture_fits : fits texture_kind ≡ true
unfolding texture_rows
texture_fits = refl
