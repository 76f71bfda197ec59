-- Written by tools/derive.py from crates/gltf_scene/src/extensions/mesh.rt and
-- crates/gltf_scene/specs/Mesh.antt. Do not edit.
-- Each row is read in the table's order.
use Rattle.gltf_schema.proofs.RowByRow.{all_kept, read_none, read_row}
use Rattle.gltf_scene.specs.Mesh.{primitive_extension_rows, primitive_extension_members}
use Rattle.gltf_scene.proofs.extensions.mesh.derived.PrimitiveObject.read_rows.Goals as goal

pub returns : goal.returns
unfolding primitive_extension_rows primitive_extension_members
returns g c =
    all_kept
    (read_row c.optional.ensures.left_out read_none) c.others.ensures
