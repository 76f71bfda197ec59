-- Written by tools/derive.py from crates/gltf_parts/src/image.rt and
-- crates/gltf_parts/specs/Image.antt. Do not edit.
-- Each row is read in the table's order.
use Rattle.gltf_schema.proofs.RowByRow.{all_read, read_none, read_row}
use Rattle.gltf_parts.specs.Image.{image_rows, image_members}
use Rattle.gltf_parts.proofs.image.derived.ImageObject.read_rows.Goals as goal

pub returns : goal.returns
unfolding image_rows image_members
returns g c =
    all_read
    (read_row c.optional.ensures.left_out
    (read_row c.optional-2.ensures.left_out
    (read_row c.optional-3.ensures.left_out
    (read_row c.optional-4.ensures.left_out
    (read_row c.optional-5.ensures.left_out
    (read_row c.optional-6.ensures.left_out read_none))))))
