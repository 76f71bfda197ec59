-- Written by tools/derive.py from crates/gltf_parts/src/extensions/material.rt and
-- crates/gltf_parts/specs/MaterialExtension.antt. Do not edit.
-- Each row is read in the table's order.
use Rattle.gltf_schema.proofs.RowByRow.{all_kept, read_none, read_row}
use Rattle.gltf_parts.specs.MaterialExtension.{material_extension_rows, material_extension_members}
use Rattle.gltf_parts.proofs.extensions.material.derived.MaterialObject.read_rows.Goals as goal

pub returns : goal.returns
unfolding material_extension_rows material_extension_members
returns g c =
    all_kept
    (read_row c.optional.ensures.left_out
    (read_row c.optional-2.ensures.left_out
    (read_row c.optional-3.ensures.left_out
    (read_row c.optional-4.ensures.left_out
    (read_row c.optional-5.ensures.left_out
    (read_row c.optional-6.ensures.left_out
    (read_row c.optional-7.ensures.left_out read_none))))))) c.others.ensures
