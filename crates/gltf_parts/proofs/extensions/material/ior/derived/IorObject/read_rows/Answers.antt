-- Written by tools/derive.py from crates/gltf_parts/src/extensions/material/ior.rt and
-- crates/gltf_parts/specs/MaterialExtension.antt. Do not edit.
-- Each row is read in the table's order.
use Rattle.gltf_schema.proofs.RowByRow.{all_read, read_none, read_row}
use Rattle.gltf_parts.specs.MaterialExtension.{ior_rows, ior_members}
use Rattle.gltf_parts.proofs.extensions.material.ior.derived.IorObject.read_rows.Goals as goal

pub returns : goal.returns
unfolding ior_rows ior_members
returns g c =
    all_read
    (read_row c.sometimes.ensures
    (read_row c.optional.ensures.left_out read_none))
