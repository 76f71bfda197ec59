-- Written by tools/derive.py from crates/gltf_root/src/root.rt and
-- crates/gltf_root/specs/Root.antt. Do not edit.
-- Each row is written in the order of the names.
use Rattle.gltf_schema.proofs.RowsWritten.{all_written, write_none, write_row}
use Rattle.gltf_root.specs.Root.{root_rows, root_members}
use Rattle.gltf_root.proofs.root.derived.RootObject.write_members.Goals as goal

pub returns : goal.returns
unfolding root_rows root_members
returns g c =
    all_written
    (write_row c.list.ensures
    (write_row c.list-2.ensures
    (write_row c.always.ensures.required
    (write_row c.list-3.ensures
    (write_row c.list-4.ensures
    (write_row c.list-5.ensures
    (write_row c.optional.ensures.optional
    (write_row c.list-6.ensures
    (write_row c.list-7.ensures
    (write_row c.optional-2.ensures.optional
    (write_row c.list-8.ensures
    (write_row c.list-9.ensures
    (write_row c.list-10.ensures
    (write_row c.list-11.ensures
    (write_row c.list-12.ensures
    (write_row c.optional-3.ensures.optional
    (write_row c.list-13.ensures
    (write_row c.list-14.ensures
    (write_row c.list-15.ensures write_none)))))))))))))))))))
