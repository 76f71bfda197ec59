-- Written by tools/derive.py from crates/gltf_parts/src/material.rt and
-- crates/gltf_parts/specs/Material.antt. Do not edit.
-- Each row is read in the table's order.
use Rattle.gltf_schema.proofs.RowByRow.{all_read, read_none, read_row}
use Rattle.gltf_parts.specs.Material.{material_rows, material_members}
use Rattle.gltf_parts.proofs.material.derived.MaterialObject.read_rows.Goals as goal

pub returns : goal.returns
unfolding material_rows material_members
returns g c =
    all_read
    (read_row c.optional.ensures.left_out
    (read_row (c.or_default.ensures.always _)
    (read_row (c.or_default-2.ensures.always _)
    (read_row c.optional-2.ensures.left_out
    (read_row (c.or_default-3.ensures.always _)
    (read_row c.optional-3.ensures.left_out
    (read_row c.optional-4.ensures.left_out
    (read_row c.optional-5.ensures.left_out
    (read_row c.sometimes.ensures
    (read_row c.optional-6.ensures.left_out
    (read_row c.optional-7.ensures.left_out read_none)))))))))))
