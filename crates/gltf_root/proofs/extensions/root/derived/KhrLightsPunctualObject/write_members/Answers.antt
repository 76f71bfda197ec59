-- Written by tools/derive.py from crates/gltf_root/src/extensions/root.rt and
-- crates/gltf_root/specs/RootExtension.antt. Do not edit.
-- Each row is written in the order of the names.
use Rattle.gltf_schema.proofs.RowsWritten.{all_written, write_none, write_row}
use Rattle.gltf_root.specs.RootExtension.{lights_rows, lights_members}
use Rattle.gltf_root.proofs.extensions.root.derived.KhrLightsPunctualObject.write_members.Goals as goal

pub returns : goal.returns
unfolding lights_rows lights_members
returns g c =
    all_written
    (write_row c.always.ensures.required write_none)
