-- Written by tools/derive.py from crates/gltf_scene/src/mesh.rt and
-- crates/gltf_scene/specs/Mesh.antt. Do not edit.
-- Each row is read in the table's order.
use Rattle.gltf_schema.proofs.RowByRow.{all_read, read_none, read_row}
use Rattle.gltf_scene.specs.Mesh.{morph_target_rows, morph_target_members}
use Rattle.gltf_scene.proofs.mesh.derived.MorphTargetObject.read_rows.Goals as goal

pub returns : goal.returns
unfolding morph_target_rows morph_target_members
returns g c =
    all_read
    (read_row c.optional.ensures.left_out
    (read_row c.optional-2.ensures.left_out
    (read_row c.optional-3.ensures.left_out read_none)))
