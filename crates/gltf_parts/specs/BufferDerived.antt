-- Written by tools/derive.py from crates/gltf_parts/specs/Buffer.antt and
-- crates/gltf_parts/src/buffer.rt. Do not edit.
use Rattle.gltf_parts.specs.Buffer.{buffer_kind, buffer_rows, view_kind, view_rows}
use Rattle.gltf_schema.specs.Height.{IsFlat, IsHigh}
use Rattle.gltf_schema.specs.Nulls.{without_nulls}
use Rattle.gltf_schema.specs.Sound.{is_sound}
use Rattle.std.specs.Prelude.{refl, true, ◌≡◌}

pub buffer_sound : is_sound buffer_kind ≡ true
unfolding buffer_rows
buffer_sound = refl

pub buffer_no_nulls : without_nulls buffer_kind ≡ buffer_kind
unfolding buffer_rows
buffer_no_nulls = refl

pub view_sound : is_sound view_kind ≡ true
unfolding view_rows
view_sound = refl

pub view_no_nulls : without_nulls view_kind ≡ view_kind
unfolding view_rows
view_no_nulls = refl

pub buffer_height : IsFlat buffer_kind
unfolding buffer_rows
buffer_height = (refl, refl)

pub view_height : IsHigh 1 view_kind
unfolding view_rows
view_height = (refl, refl)
