-- Written by tools/derive.py from crates/gltf_parts/src/extensions/material/volume.rt and
-- crates/gltf_parts/specs/MaterialExtension.antt. Do not edit.
-- Each row is read in the table's order.
use Rattle.gltf_schema.proofs.RowByRow.{all_read, read_none, read_row}
use Rattle.gltf_parts.specs.MaterialExtension.{volume_rows, volume_members}
use Rattle.gltf_parts.proofs.extensions.material.volume.derived.VolumeObject.read_rows.Goals as goal

pub returns : goal.returns
unfolding volume_rows volume_members
returns g c =
    all_read
    (read_row c.sometimes.ensures
    (read_row c.optional.ensures.left_out
    (read_row c.sometimes-2.ensures
    (read_row c.sometimes-3.ensures
    (read_row c.optional-2.ensures.left_out read_none)))))
