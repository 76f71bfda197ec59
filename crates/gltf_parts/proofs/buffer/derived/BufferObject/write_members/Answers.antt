-- Written by tools/derive.py from crates/gltf_parts/src/buffer.rt and
-- crates/gltf_parts/specs/Buffer.antt. Do not edit.
-- Each row is written in the order of the names.
use Rattle.gltf_schema.proofs.RowsWritten.{all_written, write_none, write_row}
use Rattle.gltf_parts.specs.Buffer.{buffer_rows, buffer_members}
use Rattle.gltf_parts.proofs.buffer.derived.BufferObject.write_members.Goals as goal

pub returns : goal.returns
unfolding buffer_rows buffer_members
returns g c =
    all_written
    (write_row (c.always.ensures.always _)
    (write_row c.optional.ensures.optional
    (write_row c.optional-2.ensures.optional
    (write_row c.optional-3.ensures.optional
    (write_row c.optional-4.ensures.optional write_none)))))
