-- Written by tools/derive.py from crates/gltf_root/src/root.rt and
-- crates/gltf_root/specs/Root.antt. Do not edit.
-- Each row is read in the table's order.
use Rattle.gltf_schema.proofs.RowByRow.{all_read, read_none, read_row}
use Rattle.gltf_root.specs.Root.{root_rows, root_members}
use Rattle.gltf_root.proofs.root.derived.RootObject.read_rows.Goals as goal

pub returns : goal.returns
unfolding root_rows root_members
returns g c =
    all_read
    (read_row (c.or_default.ensures.unless _)
    (read_row (c.or_default-2.ensures.unless _)
    (read_row c.required.ensures
    (read_row (c.or_default-3.ensures.unless _)
    (read_row (c.or_default-4.ensures.unless _)
    (read_row c.optional.ensures.left_out
    (read_row c.optional-2.ensures.left_out
    (read_row c.optional-3.ensures.left_out
    (read_row (c.or_default-5.ensures.unless _)
    (read_row (c.or_default-6.ensures.unless _)
    (read_row (c.or_default-7.ensures.unless _)
    (read_row (c.or_default-8.ensures.unless _)
    (read_row (c.or_default-9.ensures.unless _)
    (read_row (c.or_default-10.ensures.unless _)
    (read_row (c.or_default-11.ensures.unless _)
    (read_row (c.or_default-12.ensures.unless _)
    (read_row (c.or_default-13.ensures.unless _)
    (read_row (c.or_default-14.ensures.unless _)
    (read_row (c.or_default-15.ensures.unless _) read_none)))))))))))))))))))
