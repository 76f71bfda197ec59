-- Each member is as it was found.
use Rattle.std.proofs.Common.{refl}
use Rattle.gltf_validation_rules.specs.Context.{context_of}
use Rattle.gltf_parts.specs.Material.{material_rows, normal_texture_rows, occlusion_texture_rows, pbr_metallic_roughness_rows, material_members, pbr_metallic_roughness_members}
use Rattle.gltf_parts.specs.MaterialExtension.{material_extension_rows, pbr_specular_glossiness_rows}
use Rattle.gltf_parts.specs.Texture.{info_rows}
use Rattle.gltf_validation_objects.proofs.material.material_faults.Goals as goal

pub returns : goal.returns
unfolding material_rows normal_texture_rows occlusion_texture_rows pbr_metallic_roughness_rows material_extension_rows pbr_specular_glossiness_rows info_rows material_members pbr_metallic_roughness_members
returns c = rw (c.is_invalid.ensures (context_of c.args.context.now), c.member_state.ensures, c.member_state-2.ensures, c.member_state-3.ensures, c.member_state-4.ensures, c.member_state-5.ensures) refl
