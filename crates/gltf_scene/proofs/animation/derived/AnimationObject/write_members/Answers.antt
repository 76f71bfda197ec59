-- Written by tools/derive.py from crates/gltf_scene/src/animation.rt and
-- crates/gltf_scene/specs/Animation.antt. Do not edit.
-- Each row is written in the order of the names.
use Rattle.gltf_schema.proofs.RowsWritten.{all_written, write_none, write_row}
use Rattle.gltf_scene.specs.Animation.{animation_rows, animation_members}
use Rattle.gltf_scene.proofs.animation.derived.AnimationObject.write_members.Goals as goal

pub returns : goal.returns
unfolding animation_rows animation_members
returns g c =
    all_written
    (write_row c.list.ensures
    (write_row c.optional.ensures.optional
    (write_row c.optional-2.ensures.optional
    (write_row c.optional-3.ensures.optional
    (write_row c.list-2.ensures write_none)))))
