-- Written by tools/derive.py from crates/gltf_scene/specs/Animation.antt and
-- crates/gltf_scene/src/animation.rt. Do not edit.
use Rattle.gltf_scene.specs.Animation.{animation_channel_kind, animation_channel_rows, animation_kind, animation_rows, animation_sampler_kind, animation_sampler_rows, animation_target_kind, animation_target_rows}
use Rattle.gltf_schema.specs.Height.{IsHigh}
use Rattle.gltf_schema.specs.Nulls.{without_nulls}
use Rattle.gltf_schema.specs.Sound.{is_sound}
use Rattle.std.specs.Prelude.{refl, true, ◌≡◌}

pub animation_sampler_sound : is_sound animation_sampler_kind ≡ true
unfolding animation_sampler_rows
animation_sampler_sound = refl

pub animation_target_sound : is_sound animation_target_kind ≡ true
unfolding animation_target_rows
animation_target_sound = refl

pub animation_channel_sound : is_sound animation_channel_kind ≡ true
unfolding animation_channel_rows
animation_channel_sound = rw animation_target_sound refl

pub animation_sound : is_sound animation_kind ≡ true
unfolding animation_rows
animation_sound = rw (animation_sampler_sound, animation_channel_sound) refl

pub animation_no_nulls : without_nulls animation_kind ≡ animation_kind
unfolding animation_rows animation_sampler_rows animation_channel_rows animation_target_rows
animation_no_nulls = refl

pub animation_sampler_height : IsHigh 1 animation_sampler_kind
unfolding animation_sampler_rows
animation_sampler_height = (refl, refl)

pub animation_target_height : IsHigh 1 animation_target_kind
unfolding animation_target_rows
animation_target_height = (refl, refl)

pub animation_channel_height : IsHigh 2 animation_channel_kind
unfolding animation_channel_rows
animation_channel_height = rw (animation_target_height.0, animation_target_height.1) (refl, refl)

pub animation_height : IsHigh 4 animation_kind
unfolding animation_rows
animation_height = rw (animation_sampler_height.0, animation_sampler_height.1, animation_channel_height.0, animation_channel_height.1) (refl, refl)
