-- Written by tools/derive.py from crates/gltf_scene/src/extensions/mesh.rt and
-- crates/gltf_scene/specs/Mesh.antt. Do not edit.
-- Each row is read in the table's order.
use Rattle.gltf_schema.proofs.RowByRow.{all_read, read_none, read_row}
use Rattle.gltf_scene.specs.Mesh.{variant_mapping_rows, variant_mapping_members}
use Rattle.gltf_scene.proofs.extensions.mesh.derived.MappingObject.read_rows.Goals as goal

pub returns : goal.returns
unfolding variant_mapping_rows variant_mapping_members
returns g c =
    all_read
    (read_row c.required.ensures
    (read_row c.required-2.ensures read_none))
