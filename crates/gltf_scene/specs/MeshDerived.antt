-- Written by tools/derive.py from crates/gltf_scene/specs/Mesh.antt,
-- crates/gltf_scene/src/extensions/mesh.rt and crates/gltf_scene/src/mesh.rt. Do not edit.
use Rattle.gltf_scene.specs.Mesh.{mesh_kind, mesh_rows, morph_target_kind, morph_target_rows, primitive_extension_rows, primitive_extensions_kind, primitive_kind, primitive_rows, variant_mapping_kind, variant_mapping_rows, variant_mappings_kind, variant_mappings_rows}
use Rattle.gltf_schema.specs.Height.{IsFlat, IsHigh}
use Rattle.gltf_schema.specs.Nulls.{without_nulls}
use Rattle.gltf_schema.specs.Sound.{is_sound}
use Rattle.std.specs.Prelude.{refl, true, ◌≡◌}

pub variant_mapping_sound : is_sound variant_mapping_kind ≡ true
unfolding variant_mapping_rows
variant_mapping_sound = refl

pub variant_mappings_sound : is_sound variant_mappings_kind ≡ true
unfolding variant_mappings_rows
variant_mappings_sound = rw variant_mapping_sound refl

pub primitive_extension_sound : is_sound primitive_extensions_kind ≡ true
unfolding primitive_extension_rows
primitive_extension_sound = rw variant_mappings_sound refl

pub morph_target_sound : is_sound morph_target_kind ≡ true
unfolding morph_target_rows
morph_target_sound = refl

pub primitive_sound : is_sound primitive_kind ≡ true
unfolding primitive_rows
primitive_sound = rw (primitive_extension_sound, morph_target_sound) refl

pub mesh_sound : is_sound mesh_kind ≡ true
unfolding mesh_rows
mesh_sound = rw primitive_sound refl

pub mesh_no_nulls : without_nulls mesh_kind ≡ mesh_kind
unfolding mesh_rows primitive_rows primitive_extension_rows morph_target_rows variant_mappings_rows variant_mapping_rows
mesh_no_nulls = refl

pub variant_mapping_height : IsFlat variant_mapping_kind
unfolding variant_mapping_rows
variant_mapping_height = (refl, refl)

pub variant_mappings_height : IsFlat variant_mappings_kind
unfolding variant_mappings_rows
variant_mappings_height = rw variant_mapping_height.0 (refl, refl)

pub primitive_extension_height : IsFlat primitive_extensions_kind
unfolding primitive_extension_rows
primitive_extension_height = rw variant_mappings_height.0 (refl, refl)

pub morph_target_height : IsHigh 1 morph_target_kind
unfolding morph_target_rows
morph_target_height = (refl, refl)

pub primitive_height : IsHigh 3 primitive_kind
unfolding primitive_rows
primitive_height = rw (primitive_extension_height.0, morph_target_height.0, morph_target_height.1) (refl, refl)

pub mesh_height : IsHigh 5 mesh_kind
unfolding mesh_rows
mesh_height = rw (primitive_height.0, primitive_height.1) (refl, refl)
