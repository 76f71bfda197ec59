-- The key that a semantic is.
use Rattle.std.specs.String.{string_bytes}
use Rattle.gltf_base.specs.Keys.{Key, extras, positions, normals, tangents, colors, tex_coords, joints, weights, unknown}
use Rattle.gltf_base.specs.declared.mesh.Semantic.{Semantic}
use Rattle.gltf_base.specs.declared.mesh.Semantic.TheVariants as semantic
use Rattle.gltf_base.specs.declared.validation.Checked.{Checked}
use Rattle.gltf_base.specs.declared.validation.Checked.TheVariants.{Valid, Invalid}

abbrev pub semantic_key : Semantic → Key
semantic_key (semantic.Extras name) = extras (string_bytes name)
semantic_key semantic.Positions = positions
semantic_key semantic.Normals = normals
semantic_key semantic.Tangents = tangents
semantic_key (semantic.Colors set) = colors set
semantic_key (semantic.TexCoords set) = tex_coords set
semantic_key (semantic.Joints set) = joints set
semantic_key (semantic.Weights set) = weights set

abbrev pub checked_key : Checked Semantic → Key
checked_key (Valid s) = semantic_key s
checked_key Invalid = unknown
