-- The attributes of primitives (glTF 2.0, section 3.7.2.1).
use Rattle.std.specs.Prelude.{ℕ, List, map}
use Rattle.std.specs.BTreeMap.{BTreeMap}
use Rattle.gltf_base.specs.declared.index.IndexTo.{IndexTo}
use Rattle.gltf_base.specs.declared.mesh.Semantic.{Semantic}
use Rattle.gltf_base.specs.declared.validation.Checked.{Checked}
use Rattle.gltf_base.specs.Keys.{Key, positions, normals, tangents, colors, tex_coords, joints, weights}
use Rattle.gltf_schema.specs.Fields.{entry_of}
use Rattle.gltf_findings_codes.specs.declared.attribute.Attribute.{Attribute}
use Rattle.gltf_findings_codes.specs.declared.attribute.Attribute.TheVariants as attribute

abbrev pub attribute_key : Attribute → Key
attribute_key attribute.Positions = positions
attribute_key attribute.Normals = normals
attribute_key attribute.Tangents = tangents
attribute_key (attribute.Colors set) = colors set
attribute_key (attribute.TexCoords set) = tex_coords set
attribute_key (attribute.Joints set) = joints set
attribute_key (attribute.Weights set) = weights set

-- what each attribute means, and the number of its accessor
abbrev pub attributes_in : {P : Type 0} → BTreeMap (Checked Semantic) (IndexTo P) → List (Key × ℕ)
attributes_in m = map entry_of m.entries
