-- Written by tools/derive.py from crates/gltf_scene/src/extensions/scene/khr_lights_punctual.rt and
-- crates/gltf_scene/specs/Light.antt. Do not edit.
-- Each row is written in the order of the names.
use Rattle.gltf_schema.proofs.RowsWritten.{all_written, write_none, write_row}
use Rattle.gltf_scene.specs.Light.{spot_rows, spot_members}
use Rattle.gltf_scene.proofs.extensions.scene.khr_lights_punctual.derived.SpotObject.write_members.Goals as goal

pub returns : goal.returns
unfolding spot_rows spot_members
returns g c =
    all_written
    (write_row c.optional.ensures.sometimes
    (write_row c.optional-2.ensures.sometimes write_none))
