-- Written by tools/derive.py from crates/gltf_parts/src/image.rt and
-- crates/gltf_parts/specs/Image.antt. Do not edit.
-- Each row is written in the order of the names.
use Rattle.gltf_schema.proofs.RowsWritten.{all_written, write_none, write_row}
use Rattle.gltf_parts.specs.Image.{image_rows, image_members}
use Rattle.gltf_parts.proofs.image.derived.ImageObject.write_members.Goals as goal

pub returns : goal.returns
unfolding image_rows image_members
returns g c =
    all_written
    (write_row c.optional.ensures.optional
    (write_row c.optional-2.ensures.optional
    (write_row c.optional-3.ensures.optional
    (write_row c.optional-4.ensures.optional
    (write_row c.optional-5.ensures.optional
    (write_row c.optional-6.ensures.optional write_none))))))
