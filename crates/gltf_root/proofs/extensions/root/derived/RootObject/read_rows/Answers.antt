-- Written by tools/derive.py from crates/gltf_root/src/extensions/root.rt and
-- crates/gltf_root/specs/RootExtension.antt. Do not edit.
-- Each row is read in the table's order.
use Rattle.gltf_schema.proofs.RowByRow.{all_kept, read_none, read_row}
use Rattle.gltf_root.specs.RootExtension.{root_extension_rows, root_extension_members}
use Rattle.gltf_root.proofs.extensions.root.derived.RootObject.read_rows.Goals as goal

pub returns : goal.returns
unfolding root_extension_rows root_extension_members
returns g c =
    all_kept
    (read_row c.optional.ensures.left_out
    (read_row c.optional-2.ensures.left_out read_none)) c.others.ensures
