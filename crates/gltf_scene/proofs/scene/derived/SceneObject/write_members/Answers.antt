-- Written by tools/derive.py from crates/gltf_scene/src/scene.rt and
-- crates/gltf_scene/specs/Scene.antt. Do not edit.
-- Each row is written in the order of the names.
use Rattle.gltf_schema.proofs.RowsWritten.{all_written, write_none, write_row}
use Rattle.gltf_scene.specs.Scene.{scene_rows, scene_members}
use Rattle.gltf_scene.proofs.scene.derived.SceneObject.write_members.Goals as goal

pub returns : goal.returns
unfolding scene_rows scene_members
returns g c =
    all_written
    (write_row c.optional.ensures.optional
    (write_row c.optional-2.ensures.optional
    (write_row c.optional-3.ensures.optional
    (write_row c.list.ensures write_none))))
