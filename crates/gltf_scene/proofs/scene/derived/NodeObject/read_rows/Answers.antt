-- Written by tools/derive.py from crates/gltf_scene/src/scene.rt and
-- crates/gltf_scene/specs/Scene.antt. Do not edit.
-- Each row is read in the table's order.
use Rattle.gltf_schema.proofs.RowByRow.{all_read, read_none, read_row}
use Rattle.gltf_scene.specs.Scene.{node_rows, node_members}
use Rattle.gltf_scene.proofs.scene.derived.NodeObject.read_rows.Goals as goal

pub returns : goal.returns
unfolding node_rows node_members
returns g c =
    all_read
    (read_row c.optional.ensures.left_out
    (read_row c.optional-2.ensures.left_out
    (read_row c.optional-3.ensures.left_out
    (read_row c.optional-4.ensures.left_out
    (read_row c.optional-5.ensures.left_out
    (read_row c.optional-6.ensures.left_out
    (read_row c.optional-7.ensures.left_out
    (read_row c.optional-8.ensures.left_out
    (read_row c.optional-9.ensures.left_out
    (read_row c.optional-10.ensures.left_out
    (read_row c.optional-11.ensures.left_out
    (read_row c.optional-12.ensures.left_out read_none))))))))))))
