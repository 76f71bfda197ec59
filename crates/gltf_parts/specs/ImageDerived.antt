-- Written by tools/derive.py from crates/gltf_parts/specs/Image.antt and
-- crates/gltf_parts/src/image.rt. Do not edit.
use Rattle.gltf_parts.specs.Image.{image_kind, image_rows}
use Rattle.gltf_schema.specs.Height.{IsHigh}
use Rattle.gltf_schema.specs.Nulls.{without_nulls}
use Rattle.gltf_schema.specs.Sound.{is_sound}
use Rattle.std.specs.Prelude.{refl, true, ◌≡◌}

pub image_sound : is_sound image_kind ≡ true
unfolding image_rows
image_sound = refl

pub image_no_nulls : without_nulls image_kind ≡ image_kind
unfolding image_rows
image_no_nulls = refl

pub image_height : IsHigh 1 image_kind
unfolding image_rows
image_height = (refl, refl)
