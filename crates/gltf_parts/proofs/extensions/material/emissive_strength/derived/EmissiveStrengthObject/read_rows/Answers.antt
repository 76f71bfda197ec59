-- Written by tools/derive.py from crates/gltf_parts/src/extensions/material/emissive_strength.rt
-- and crates/gltf_parts/specs/MaterialExtension.antt. Do not edit.
-- Each row is read in the table's order.
use Rattle.gltf_schema.proofs.RowByRow.{all_read, read_none, read_row}
use Rattle.gltf_parts.specs.MaterialExtension.{emissive_strength_rows, emissive_strength_members}
use Rattle.gltf_parts.proofs.extensions.material.emissive_strength.derived.EmissiveStrengthObject.read_rows.Goals as goal

pub returns : goal.returns
unfolding emissive_strength_rows emissive_strength_members
returns g c =
    all_read
    (read_row c.sometimes.ensures read_none)
