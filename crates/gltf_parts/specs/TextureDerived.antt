-- Written by tools/derive.py from crates/gltf_parts/specs/Texture.antt,
-- crates/gltf_parts/src/texture.rt and crates/gltf_parts/src/extensions/texture.rt. Do not edit.
use Rattle.gltf_parts.specs.Texture.{info_extension_rows, info_extensions_kind, info_kind, info_rows, sampler_kind, sampler_rows, texture_kind, texture_rows, texture_transform_kind, texture_transform_rows}
use Rattle.gltf_schema.specs.Height.{IsFlat, IsHigh}
use Rattle.gltf_schema.specs.Nulls.{without_nulls}
use Rattle.gltf_schema.specs.Sound.{is_sound}
use Rattle.std.specs.Prelude.{refl, true, ◌≡◌}

pub sampler_sound : is_sound sampler_kind ≡ true
unfolding sampler_rows
sampler_sound = refl

pub sampler_no_nulls : without_nulls sampler_kind ≡ sampler_kind
unfolding sampler_rows
sampler_no_nulls = refl

pub texture_sound : is_sound texture_kind ≡ true
unfolding texture_rows
texture_sound = refl

pub texture_no_nulls : without_nulls texture_kind ≡ texture_kind
unfolding texture_rows
texture_no_nulls = refl

pub texture_transform_sound : is_sound texture_transform_kind ≡ true
unfolding texture_transform_rows
texture_transform_sound = refl

pub info_extension_sound : is_sound info_extensions_kind ≡ true
unfolding info_extension_rows
info_extension_sound = rw texture_transform_sound refl

pub info_sound : is_sound info_kind ≡ true
unfolding info_rows
info_sound = rw info_extension_sound refl

pub sampler_height : IsHigh 1 sampler_kind
unfolding sampler_rows
sampler_height = (refl, refl)

pub texture_height : IsHigh 1 texture_kind
unfolding texture_rows
texture_height = (refl, refl)

pub texture_transform_height : IsFlat texture_transform_kind
unfolding texture_transform_rows
texture_transform_height = (refl, refl)

pub info_extension_height : IsFlat info_extensions_kind
unfolding info_extension_rows
info_extension_height = rw texture_transform_height.0 (refl, refl)

pub info_height : IsHigh 1 info_kind
unfolding info_rows
info_height = rw info_extension_height.0 (refl, refl)
