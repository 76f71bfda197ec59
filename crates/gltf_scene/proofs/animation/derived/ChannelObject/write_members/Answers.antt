-- Written by tools/derive.py from crates/gltf_scene/src/animation.rt and
-- crates/gltf_scene/specs/Animation.antt. Do not edit.
-- Each row is written in the order of the names.
use Rattle.std.proofs.Common.{sym}
use Rattle.gltf_schema.proofs.RowsWritten.{all_written, write_none, write_row, sampler_written}
use Rattle.gltf_scene.specs.Animation.{animation_channel_rows, animation_channel_members}
use Rattle.gltf_scene.proofs.animation.derived.ChannelObject.write_members.Goals as goal

pub returns : goal.returns
unfolding animation_channel_rows animation_channel_members
returns g c =
    all_written
    (write_row c.optional.ensures.optional
    (write_row c.optional-2.ensures.optional
    (write_row (sampler_written (sym c.number.ensures) c.always.ensures.required)
    (write_row c.always-2.ensures.required write_none))))
