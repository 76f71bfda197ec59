-- Written by tools/derive.py from crates/gltf_scene/src/extensions/scene/khr_lights_punctual.rt and
-- crates/gltf_scene/specs/Light.antt. Do not edit.
-- Each row is read in the table's order.
use Rattle.gltf_schema.proofs.RowByRow.{all_read, read_none, read_row}
use Rattle.gltf_scene.specs.Light.{light_of_node_rows, light_of_node_members}
use Rattle.gltf_scene.proofs.extensions.scene.khr_lights_punctual.derived.KhrLightsPunctualObject.read_rows.Goals as goal

pub returns : goal.returns
unfolding light_of_node_rows light_of_node_members
returns g c =
    all_read
    (read_row c.required.ensures read_none)
