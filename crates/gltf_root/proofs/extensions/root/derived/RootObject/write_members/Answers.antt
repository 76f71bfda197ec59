-- Written by tools/derive.py from crates/gltf_root/src/extensions/root.rt and
-- crates/gltf_root/specs/RootExtension.antt. Do not edit.
-- Each row is written in the order of the names.
use Rattle.gltf_schema.proofs.RowsWritten.{written_with_others, write_none, write_row}
use Rattle.gltf_root.specs.RootExtension.{root_extension_rows, root_extension_members}
use Rattle.gltf_root.proofs.extensions.root.derived.RootObject.write_members.Goals as goal

pub returns : goal.returns
unfolding root_extension_rows root_extension_members
returns g c =
    written_with_others c.others.ensures
    (write_row c.optional.ensures.optional
    (write_row c.optional-2.ensures.optional write_none))
