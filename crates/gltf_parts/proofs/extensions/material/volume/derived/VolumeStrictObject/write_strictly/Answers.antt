-- Written by tools/derive.py from crates/gltf_parts/src/extensions/material/volume.rt and
-- crates/gltf_parts/specs/MaterialExtension.antt. Do not edit.
-- Each row is written in the order of the names.
use Rattle.gltf_schema.proofs.RowsWritten.{all_written, write_none, write_row}
use Rattle.gltf_parts.specs.MaterialExtension.{volume_rows, volume_members}
use Rattle.gltf_parts.proofs.extensions.material.volume.derived.VolumeStrictObject.write_strictly.Goals as goal

pub returns : goal.returns
unfolding volume_rows volume_members
returns g c =
    all_written
    (write_row c.optional.ensures.sometimes
    (write_row c.optional-2.ensures.sometimes
    (write_row c.optional-3.ensures.optional
    (write_row c.optional-4.ensures.sometimes
    (write_row c.optional_strictly.ensures.optional write_none)))))
