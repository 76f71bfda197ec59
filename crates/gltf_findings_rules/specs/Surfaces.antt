-- The textures that materials name.
use Rattle.std.specs.Prelude.{ℕ, List, Bool, Option, Some, None}
use Rattle.gltf_base.specs.Indexes.{index_number}
use Rattle.gltf_parts.specs.declared.extensions.material.Material.{Material as Extension}
use Rattle.gltf_parts.specs.declared.extensions.material.pbr_specular_glossiness.PbrSpecularGlossiness.{PbrSpecularGlossiness as Glossiness}
use Rattle.gltf_parts.specs.declared.extensions.material.transmission.Transmission.{Transmission}
use Rattle.gltf_parts.specs.declared.extensions.material.volume.Volume.{Volume}
use Rattle.gltf_parts.specs.declared.extensions.material.specular.Specular.{Specular}
use Rattle.gltf_parts.specs.declared.material.Material.{Material}
use Rattle.gltf_parts.specs.declared.material.PbrMetallicRoughness.{PbrMetallicRoughness}
use Rattle.gltf_parts.specs.declared.material.NormalTexture.{NormalTexture}
use Rattle.gltf_parts.specs.declared.material.OcclusionTexture.{OcclusionTexture}
use Rattle.gltf_parts.specs.declared.texture.Info.{Info}
use Rattle.gltf_findings_codes.specs.Marks.{mark}

abbrev pub info_marks : Option Info → List Bool → List Bool
info_marks None marks = marks
info_marks (Some i) marks = mark marks (index_number i.index)

abbrev pub normal_marks : Option NormalTexture → List Bool → List Bool
normal_marks None marks = marks
normal_marks (Some i) marks = mark marks (index_number i.index)

abbrev pub occlusion_marks : Option OcclusionTexture → List Bool → List Bool
occlusion_marks None marks = marks
occlusion_marks (Some i) marks = mark marks (index_number i.index)

abbrev pub model_marks : PbrMetallicRoughness → List Bool → List Bool
model_marks m marks = info_marks m.metallic_roughness_texture (info_marks m.base_color_texture marks)

abbrev pub glossiness_marks : Option Glossiness → List Bool → List Bool
glossiness_marks None marks = marks
glossiness_marks (Some g) marks = info_marks g.specular_glossiness_texture (info_marks g.diffuse_texture marks)

abbrev pub transmission_marks : Option Transmission → List Bool → List Bool
transmission_marks None marks = marks
transmission_marks (Some t) marks = info_marks t.transmission_texture marks

abbrev pub volume_marks : Option Volume → List Bool → List Bool
volume_marks None marks = marks
volume_marks (Some v) marks = info_marks v.thickness_texture marks

abbrev pub specular_marks : Option Specular → List Bool → List Bool
specular_marks None marks = marks
specular_marks (Some s) marks = info_marks s.specular_color_texture (info_marks s.specular_texture marks)

abbrev pub extension_marks : Option Extension → List Bool → List Bool
extension_marks None marks = marks
extension_marks (Some e) marks = specular_marks e.specular (volume_marks e.volume (transmission_marks e.transmission (glossiness_marks e.pbr_specular_glossiness marks)))

-- the textures of a material and of its extensions
abbrev pub material_marks : Material → List Bool → List Bool
material_marks m marks = extension_marks m.extensions (info_marks m.emissive_texture (occlusion_marks m.occlusion_texture (normal_marks m.normal_texture (model_marks m.pbr_metallic_roughness marks))))
