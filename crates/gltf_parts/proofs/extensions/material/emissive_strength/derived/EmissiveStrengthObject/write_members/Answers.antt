-- Written by tools/derive.py from crates/gltf_parts/src/extensions/material/emissive_strength.rt
-- and crates/gltf_parts/specs/MaterialExtension.antt. Do not edit.
-- Each row is written in the order of the names.
use Rattle.gltf_schema.proofs.RowsWritten.{all_written, write_none, write_row}
use Rattle.gltf_parts.specs.MaterialExtension.{emissive_strength_rows, emissive_strength_members}
use Rattle.gltf_parts.proofs.extensions.material.emissive_strength.derived.EmissiveStrengthObject.write_members.Goals as goal

pub returns : goal.returns
unfolding emissive_strength_rows emissive_strength_members
returns g c =
    all_written
    (write_row c.optional.ensures.sometimes write_none)
