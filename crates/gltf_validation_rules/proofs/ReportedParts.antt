-- Written by tools/derive.py from crates/gltf_parts/specs/Accessor.antt,
-- crates/gltf_parts/specs/Buffer.antt, crates/gltf_parts/specs/Image.antt,
-- crates/gltf_parts/specs/Texture.antt, crates/gltf_parts/specs/Material.antt and
-- crates/gltf_parts/specs/MaterialExtension.antt. Do not edit.
use Rattle.gltf_parts.specs.Accessor.{accessor_members, accessor_rows, sparse_indices_members, sparse_indices_rows, sparse_members, sparse_rows, sparse_values_members, sparse_values_rows}
use Rattle.gltf_parts.specs.Buffer.{buffer_members, buffer_rows, view_members, view_rows}
use Rattle.gltf_parts.specs.Image.{image_members, image_rows}
use Rattle.gltf_parts.specs.Material.{material_members, material_rows, normal_texture_members, normal_texture_rows, occlusion_texture_members, occlusion_texture_rows, pbr_metallic_roughness_members, pbr_metallic_roughness_rows}
use Rattle.gltf_parts.specs.MaterialExtension.{emissive_strength_members, emissive_strength_rows, ior_members, ior_rows, material_extension_members, material_extension_rows, pbr_specular_glossiness_members, pbr_specular_glossiness_rows, specular_members, specular_rows, transmission_members, transmission_rows, volume_members, volume_rows}
use Rattle.gltf_parts.specs.Texture.{info_extension_members, info_extension_rows, info_members, info_rows, sampler_members, sampler_rows, texture_members, texture_rows, texture_transform_members, texture_transform_rows}
use Rattle.gltf_parts.specs.declared.accessor.Accessor.{Accessor}
use Rattle.gltf_parts.specs.declared.accessor.sparse.Indices.{Indices as SparseIndices}
use Rattle.gltf_parts.specs.declared.accessor.sparse.Sparse.{Sparse}
use Rattle.gltf_parts.specs.declared.accessor.sparse.Values.{Values as SparseValues}
use Rattle.gltf_parts.specs.declared.buffer.Buffer.{Buffer}
use Rattle.gltf_parts.specs.declared.buffer.View.{View}
use Rattle.gltf_parts.specs.declared.extensions.material.Material.{Material as MaterialExtension}
use Rattle.gltf_parts.specs.declared.extensions.material.emissive_strength.EmissiveStrength.{EmissiveStrength}
use Rattle.gltf_parts.specs.declared.extensions.material.ior.Ior.{Ior}
use Rattle.gltf_parts.specs.declared.extensions.material.pbr_specular_glossiness.PbrSpecularGlossiness.{PbrSpecularGlossiness}
use Rattle.gltf_parts.specs.declared.extensions.material.specular.Specular.{Specular}
use Rattle.gltf_parts.specs.declared.extensions.material.transmission.Transmission.{Transmission}
use Rattle.gltf_parts.specs.declared.extensions.material.volume.Volume.{Volume}
use Rattle.gltf_parts.specs.declared.extensions.texture.Info.{Info as InfoExtension}
use Rattle.gltf_parts.specs.declared.extensions.texture.TextureTransform.{TextureTransform}
use Rattle.gltf_parts.specs.declared.image.Image.{Image}
use Rattle.gltf_parts.specs.declared.material.Material.{Material}
use Rattle.gltf_parts.specs.declared.material.NormalTexture.{NormalTexture}
use Rattle.gltf_parts.specs.declared.material.OcclusionTexture.{OcclusionTexture}
use Rattle.gltf_parts.specs.declared.material.PbrMetallicRoughness.{PbrMetallicRoughness}
use Rattle.gltf_parts.specs.declared.texture.Info.{Info}
use Rattle.gltf_parts.specs.declared.texture.Sampler.{Sampler}
use Rattle.gltf_parts.specs.declared.texture.Texture.{Texture}
use Rattle.gltf_validation_rules.proofs.InvalidReported.{AreReported, invalid_reported}

pub sparse_indices_reported : (v : SparseIndices) → AreReported sparse_indices_rows (sparse_indices_members v)
unfolding sparse_indices_rows sparse_indices_members
sparse_indices_reported v = search invalid_reported depth 40

pub sparse_values_reported : (v : SparseValues) → AreReported sparse_values_rows (sparse_values_members v)
unfolding sparse_values_rows sparse_values_members
sparse_values_reported v = search invalid_reported depth 40

pub sparse_reported : (v : Sparse) → AreReported sparse_rows (sparse_members v)
unfolding sparse_rows sparse_members
sparse_reported v = search (invalid_reported, sparse_indices_reported, sparse_values_reported) depth 40

pub accessor_reported : (v : Accessor) → AreReported accessor_rows (accessor_members v)
unfolding accessor_rows accessor_members
accessor_reported v = search (invalid_reported, sparse_reported) depth 40

pub buffer_reported : (v : Buffer) → AreReported buffer_rows (buffer_members v)
unfolding buffer_rows buffer_members
buffer_reported v = search invalid_reported depth 40

pub view_reported : (v : View) → AreReported view_rows (view_members v)
unfolding view_rows view_members
view_reported v = search invalid_reported depth 40

pub image_reported : (v : Image) → AreReported image_rows (image_members v)
unfolding image_rows image_members
image_reported v = search invalid_reported depth 40

pub texture_transform_reported : (v : TextureTransform) → AreReported texture_transform_rows (texture_transform_members v)
unfolding texture_transform_rows texture_transform_members
texture_transform_reported v = search invalid_reported depth 40

pub info_extension_reported : (v : InfoExtension) → AreReported info_extension_rows (info_extension_members v)
unfolding info_extension_rows info_extension_members
info_extension_reported v = search (invalid_reported, texture_transform_reported) depth 40

pub info_reported : (v : Info) → AreReported info_rows (info_members v)
unfolding info_rows info_members
info_reported v = search (invalid_reported, info_extension_reported) depth 40

pub pbr_metallic_roughness_reported : (v : PbrMetallicRoughness) → AreReported pbr_metallic_roughness_rows (pbr_metallic_roughness_members v)
unfolding pbr_metallic_roughness_rows pbr_metallic_roughness_members
pbr_metallic_roughness_reported v = search (invalid_reported, info_reported) depth 40

pub normal_texture_reported : (v : NormalTexture) → AreReported normal_texture_rows (normal_texture_members v)
unfolding normal_texture_rows normal_texture_members
normal_texture_reported v = search invalid_reported depth 40

pub occlusion_texture_reported : (v : OcclusionTexture) → AreReported occlusion_texture_rows (occlusion_texture_members v)
unfolding occlusion_texture_rows occlusion_texture_members
occlusion_texture_reported v = search invalid_reported depth 40

pub pbr_specular_glossiness_reported : (v : PbrSpecularGlossiness) → AreReported pbr_specular_glossiness_rows (pbr_specular_glossiness_members v)
unfolding pbr_specular_glossiness_rows pbr_specular_glossiness_members
pbr_specular_glossiness_reported v = search (invalid_reported, info_reported) depth 40

pub transmission_reported : (v : Transmission) → AreReported transmission_rows (transmission_members v)
unfolding transmission_rows transmission_members
transmission_reported v = search (invalid_reported, info_reported) depth 40

pub volume_reported : (v : Volume) → AreReported volume_rows (volume_members v)
unfolding volume_rows volume_members
volume_reported v = search (invalid_reported, info_reported) depth 40

pub specular_reported : (v : Specular) → AreReported specular_rows (specular_members v)
unfolding specular_rows specular_members
specular_reported v = search (invalid_reported, info_reported) depth 40

pub ior_reported : (v : Ior) → AreReported ior_rows (ior_members v)
unfolding ior_rows ior_members
ior_reported v = search invalid_reported depth 40

pub emissive_strength_reported : (v : EmissiveStrength) → AreReported emissive_strength_rows (emissive_strength_members v)
unfolding emissive_strength_rows emissive_strength_members
emissive_strength_reported v = search invalid_reported depth 40

pub material_extension_reported : (v : MaterialExtension) → AreReported material_extension_rows (material_extension_members v)
unfolding material_extension_rows material_extension_members
material_extension_reported v = search (invalid_reported, pbr_specular_glossiness_reported, transmission_reported, volume_reported, specular_reported, ior_reported, emissive_strength_reported) depth 40

pub material_reported : (v : Material) → AreReported material_rows (material_members v)
unfolding material_rows material_members
material_reported v = search (invalid_reported, pbr_metallic_roughness_reported, normal_texture_reported, occlusion_texture_reported, info_reported, material_extension_reported) depth 40

pub sampler_reported : (v : Sampler) → AreReported sampler_rows (sampler_members v)
unfolding sampler_rows sampler_members
sampler_reported v = search invalid_reported depth 40

pub texture_reported : (v : Texture) → AreReported texture_rows (texture_members v)
unfolding texture_rows texture_members
texture_reported v = search invalid_reported depth 40
