-- Written by tools/derive.py from crates/gltf_parts/src/buffer.rt and
-- crates/gltf_parts/specs/Buffer.antt. Do not edit.
-- Each row is read in the table's order.
use Rattle.gltf_schema.proofs.RowByRow.{all_read, read_none, read_row}
use Rattle.gltf_parts.specs.Buffer.{buffer_rows, buffer_members}
use Rattle.gltf_parts.proofs.buffer.derived.BufferObject.read_rows.Goals as goal

pub returns : goal.returns
unfolding buffer_rows buffer_members
returns g c =
    all_read
    (read_row (c.or_default.ensures.always _)
    (read_row c.optional.ensures.left_out
    (read_row c.optional-2.ensures.left_out
    (read_row c.optional-3.ensures.left_out
    (read_row c.optional-4.ensures.left_out read_none)))))
