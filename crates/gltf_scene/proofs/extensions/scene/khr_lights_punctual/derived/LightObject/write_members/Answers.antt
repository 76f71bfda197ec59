-- Written by tools/derive.py from crates/gltf_scene/src/extensions/scene/khr_lights_punctual.rt and
-- crates/gltf_scene/specs/Light.antt. Do not edit.
-- Each row is written in the order of the names.
use Rattle.gltf_schema.proofs.RowsWritten.{all_written, write_none, write_row}
use Rattle.gltf_scene.specs.Light.{light_rows, light_members}
use Rattle.gltf_scene.proofs.extensions.scene.khr_lights_punctual.derived.LightObject.write_members.Goals as goal

pub returns : goal.returns
unfolding light_rows light_members
returns g c =
    all_written
    (write_row c.optional.ensures.sometimes
    (write_row c.optional-2.ensures.optional
    (write_row c.optional-3.ensures.optional
    (write_row c.optional-4.ensures.sometimes
    (write_row c.optional-5.ensures.optional
    (write_row c.optional-6.ensures.optional
    (write_row c.optional-7.ensures.optional
    (write_row c.always.ensures.required write_none))))))))
