-- Written by tools/derive.py from crates/gltf_scene/src/camera.rt and
-- crates/gltf_scene/specs/Camera.antt. Do not edit.
-- Each row is written in the order of the names.
use Rattle.gltf_schema.proofs.RowsWritten.{all_written, write_none, write_row}
use Rattle.gltf_scene.specs.Camera.{orthographic_rows, orthographic_members}
use Rattle.gltf_scene.proofs.camera.derived.OrthographicObject.write_members.Goals as goal

pub returns : goal.returns
unfolding orthographic_rows orthographic_members
returns g c =
    all_written
    (write_row c.optional.ensures.optional
    (write_row c.optional-2.ensures.optional
    (write_row c.always.ensures.required
    (write_row c.always-2.ensures.required
    (write_row c.always-3.ensures.required
    (write_row c.always-4.ensures.required write_none))))))
