-- Written by tools/derive.py from crates/gltf_parts/src/accessor.rt and
-- crates/gltf_parts/specs/Accessor.antt. Do not edit.
-- Each row is written in the order of the names.
use Rattle.gltf_schema.proofs.RowsWritten.{all_written, write_none, write_row}
use Rattle.gltf_parts.specs.Accessor.{accessor_rows, accessor_members}
use Rattle.gltf_parts.proofs.accessor.derived.AccessorObject.write_members.Goals as goal

pub returns : goal.returns
unfolding accessor_rows accessor_members
returns g c =
    all_written
    (write_row c.optional.ensures.optional
    (write_row c.optional-2.ensures.optional
    (write_row c.always.ensures.required
    (write_row c.always-2.ensures.required
    (write_row c.optional-3.ensures.optional
    (write_row c.optional-4.ensures.optional
    (write_row c.optional-5.ensures.optional
    (write_row c.optional-6.ensures.optional
    (write_row c.optional-7.ensures.optional
    (write_row c.unless.ensures
    (write_row c.optional-8.ensures.optional
    (write_row c.always-3.ensures.required write_none))))))))))))
