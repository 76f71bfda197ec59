-- Written by tools/derive.py from crates/gltf_scene/src/extensions/scene/khr_lights_punctual.rt and
-- crates/gltf_scene/specs/Light.antt. Do not edit.
-- Each row is read in the table's order.
use Rattle.gltf_schema.proofs.RowByRow.{all_read, read_none, read_row}
use Rattle.gltf_scene.specs.Light.{light_rows, light_members}
use Rattle.gltf_scene.proofs.extensions.scene.khr_lights_punctual.derived.LightObject.read_rows.Goals as goal

pub returns : goal.returns
unfolding light_rows light_members
returns g c =
    all_read
    (read_row c.sometimes.ensures
    (read_row c.optional.ensures.left_out
    (read_row c.optional-2.ensures.left_out
    (read_row c.sometimes-2.ensures
    (read_row c.optional-3.ensures.left_out
    (read_row c.optional-4.ensures.left_out
    (read_row c.optional-5.ensures.left_out
    (read_row c.required.ensures read_none))))))))
