-- Written by tools/derive.py from crates/gltf_parts/src/material.rt and
-- crates/gltf_parts/specs/Material.antt. Do not edit.
-- Each row is written in the order of the names.
use Rattle.gltf_schema.proofs.RowsWritten.{all_written, write_none, write_row}
use Rattle.gltf_parts.specs.Material.{occlusion_texture_rows, occlusion_texture_members}
use Rattle.gltf_parts.proofs.material.derived.OcclusionTextureObject.write_members.Goals as goal

pub returns : goal.returns
unfolding occlusion_texture_rows occlusion_texture_members
returns g c =
    all_written
    (write_row c.optional.ensures.optional
    (write_row c.optional-2.ensures.optional
    (write_row c.always.ensures.required
    (write_row c.optional-3.ensures.sometimes
    (write_row (c.always-2.ensures.always _) write_none)))))
