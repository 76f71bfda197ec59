-- Written by tools/derive.py from crates/gltf_scene/src/scene.rt and
-- crates/gltf_scene/specs/Scene.antt. Do not edit.
-- Each row is read in the table's order.
use Rattle.gltf_schema.proofs.RowByRow.{all_read, read_none, read_row}
use Rattle.gltf_scene.specs.Scene.{scene_rows, scene_members}
use Rattle.gltf_scene.proofs.scene.derived.SceneObject.read_rows.Goals as goal

pub returns : goal.returns
unfolding scene_rows scene_members
returns g c =
    all_read
    (read_row c.optional.ensures.left_out
    (read_row c.optional-2.ensures.left_out
    (read_row c.optional-3.ensures.left_out
    (read_row (c.or_default.ensures.unless _) read_none))))
