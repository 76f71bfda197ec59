-- Written by tools/derive.py from crates/gltf_scene/specs/Camera.antt and
-- crates/gltf_scene/src/camera.rt. Do not edit.
use Rattle.gltf_scene.specs.Camera.{camera_kind, camera_rows, orthographic_kind, orthographic_rows, perspective_kind, perspective_rows}
use Rattle.gltf_schema.specs.Height.{IsFlat, IsHigh}
use Rattle.gltf_schema.specs.Nulls.{without_nulls}
use Rattle.gltf_schema.specs.Sound.{is_sound}
use Rattle.std.specs.Prelude.{refl, true, ◌≡◌}

pub orthographic_sound : is_sound orthographic_kind ≡ true
unfolding orthographic_rows
orthographic_sound = refl

pub perspective_sound : is_sound perspective_kind ≡ true
unfolding perspective_rows
perspective_sound = refl

pub camera_sound : is_sound camera_kind ≡ true
unfolding camera_rows
camera_sound = rw (orthographic_sound, perspective_sound) refl

pub camera_no_nulls : without_nulls camera_kind ≡ camera_kind
unfolding camera_rows orthographic_rows perspective_rows
camera_no_nulls = refl

pub orthographic_height : IsFlat orthographic_kind
unfolding orthographic_rows
orthographic_height = (refl, refl)

pub perspective_height : IsFlat perspective_kind
unfolding perspective_rows
perspective_height = (refl, refl)

pub camera_height : IsHigh 1 camera_kind
unfolding camera_rows
camera_height = rw (orthographic_height.0, perspective_height.0) (refl, refl)
