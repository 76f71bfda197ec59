-- Written by tools/derive.py from crates/gltf_parts/src/material.rt and
-- crates/gltf_parts/specs/Material.antt. Do not edit.
-- Each row is written in the order of the names.
use Rattle.gltf_schema.proofs.RowsWritten.{all_written, write_none, write_row}
use Rattle.gltf_parts.specs.Material.{pbr_metallic_roughness_rows, pbr_metallic_roughness_members}
use Rattle.gltf_parts.proofs.material.derived.PbrMetallicRoughnessStrictObject.write_strictly.Goals as goal

pub returns : goal.returns
unfolding pbr_metallic_roughness_rows pbr_metallic_roughness_members
returns g c =
    all_written
    (write_row c.optional.ensures.sometimes
    (write_row c.optional_strictly.ensures.optional
    (write_row c.optional-2.ensures.optional
    (write_row c.optional-3.ensures.optional
    (write_row c.optional-4.ensures.sometimes
    (write_row c.optional_strictly-2.ensures.optional
    (write_row c.optional-5.ensures.sometimes write_none)))))))
