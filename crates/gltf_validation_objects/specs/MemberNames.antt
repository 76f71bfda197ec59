-- Written by tools/derive.py from the rows of the objects that refer to textures. Do not edit.
use Rattle.std.specs.Prelude.{List, codes, ℕ}
use Rattle.gltf_validation_objects.specs.declared.member_name.MemberName.{MemberName}
use Rattle.gltf_validation_objects.specs.declared.member_name.MemberName.TheVariants as member_name

-- the names of members that refer to textures
abbrev pub member_text : MemberName → List ℕ
member_text member_name.BaseColorTexture = codes "baseColorTexture"
member_text member_name.MetallicRoughnessTexture = codes "metallicRoughnessTexture"
member_text member_name.DiffuseTexture = codes "diffuseTexture"
member_text member_name.SpecularGlossinessTexture = codes "specularGlossinessTexture"
member_text member_name.TransmissionTexture = codes "transmissionTexture"
member_text member_name.ThicknessTexture = codes "thicknessTexture"
member_text member_name.SpecularTexture = codes "specularTexture"
member_text member_name.SpecularColorTexture = codes "specularColorTexture"
