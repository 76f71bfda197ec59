-- Written by tools/derive.py from crates/gltf_parts/specs/MaterialExtension.antt,
-- crates/gltf_parts/src/extensions/material/pbr_specular_glossiness.rt,
-- crates/gltf_parts/src/extensions/material/transmission.rt,
-- crates/gltf_parts/src/extensions/material/volume.rt,
-- crates/gltf_parts/src/extensions/material/specular.rt,
-- crates/gltf_parts/src/extensions/material/ior.rt,
-- crates/gltf_parts/src/extensions/material/emissive_strength.rt and
-- crates/gltf_parts/src/extensions/material.rt. Do not edit.
use Rattle.gltf_parts.specs.MaterialExtension.{emissive_strength_kind, emissive_strength_rows, ior_kind, ior_rows, material_extension_rows, material_extensions_kind, pbr_specular_glossiness_kind, pbr_specular_glossiness_rows, specular_kind, specular_rows, transmission_kind, transmission_rows, unlit_height, volume_kind, volume_rows}
use Rattle.gltf_parts.specs.TextureDerived.{info_height, info_sound}
use Rattle.gltf_schema.specs.Height.{IsFlat, IsHigh}
use Rattle.gltf_schema.specs.Nulls.{without_nulls}
use Rattle.gltf_schema.specs.Sound.{is_sound}
use Rattle.std.specs.Prelude.{refl, true, ◌≡◌}

pub pbr_specular_glossiness_sound : is_sound pbr_specular_glossiness_kind ≡ true
unfolding pbr_specular_glossiness_rows
pbr_specular_glossiness_sound = rw info_sound refl

pub transmission_sound : is_sound transmission_kind ≡ true
unfolding transmission_rows
transmission_sound = rw info_sound refl

pub volume_sound : is_sound volume_kind ≡ true
unfolding volume_rows
volume_sound = rw info_sound refl

pub specular_sound : is_sound specular_kind ≡ true
unfolding specular_rows
specular_sound = rw info_sound refl

pub ior_sound : is_sound ior_kind ≡ true
unfolding ior_rows
ior_sound = refl

pub ior_no_nulls : without_nulls ior_kind ≡ ior_kind
unfolding ior_rows
ior_no_nulls = refl

pub emissive_strength_sound : is_sound emissive_strength_kind ≡ true
unfolding emissive_strength_rows
emissive_strength_sound = refl

pub emissive_strength_no_nulls : without_nulls emissive_strength_kind ≡ emissive_strength_kind
unfolding emissive_strength_rows
emissive_strength_no_nulls = refl

pub material_extension_sound : is_sound material_extensions_kind ≡ true
unfolding material_extension_rows
material_extension_sound = rw (pbr_specular_glossiness_sound, transmission_sound, volume_sound, specular_sound, ior_sound, emissive_strength_sound) refl

pub pbr_specular_glossiness_height : IsHigh 2 pbr_specular_glossiness_kind
unfolding pbr_specular_glossiness_rows
pbr_specular_glossiness_height = rw (info_height.0, info_height.1) (refl, refl)

pub transmission_height : IsHigh 2 transmission_kind
unfolding transmission_rows
transmission_height = rw (info_height.0, info_height.1) (refl, refl)

pub volume_height : IsHigh 2 volume_kind
unfolding volume_rows
volume_height = rw (info_height.0, info_height.1) (refl, refl)

pub specular_height : IsHigh 2 specular_kind
unfolding specular_rows
specular_height = rw (info_height.0, info_height.1) (refl, refl)

pub ior_height : IsFlat ior_kind
unfolding ior_rows
ior_height = (refl, refl)

pub emissive_strength_height : IsFlat emissive_strength_kind
unfolding emissive_strength_rows
emissive_strength_height = (refl, refl)

pub material_extension_height : IsHigh 3 material_extensions_kind
unfolding material_extension_rows
material_extension_height = rw (pbr_specular_glossiness_height.0, pbr_specular_glossiness_height.1, unlit_height.0, transmission_height.0, transmission_height.1, volume_height.0, volume_height.1, specular_height.0, specular_height.1, ior_height.0, emissive_strength_height.0) (refl, refl)
