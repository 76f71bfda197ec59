-- Written by tools/derive.py from crates/gltf_scene/src/extensions/scene.rt and
-- crates/gltf_scene/specs/Scene.antt. Do not edit.
-- Each row is read in the table's order.
use Rattle.gltf_schema.proofs.RowByRow.{all_kept, read_none, read_row}
use Rattle.gltf_scene.specs.Scene.{node_extension_rows, node_extension_members}
use Rattle.gltf_scene.proofs.extensions.scene.derived.NodeObject.read_rows.Goals as goal

pub returns : goal.returns
unfolding node_extension_rows node_extension_members
returns g c =
    all_kept
    (read_row c.optional.ensures.left_out read_none) c.others.ensures
