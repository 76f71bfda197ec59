-- Written by tools/derive.py from crates/gltf_parts/src/material.rt and
-- crates/gltf_parts/specs/Material.antt. Do not edit.
-- Each row is written in the order of the names.
use Rattle.gltf_schema.proofs.RowsWritten.{all_written, write_none, write_row}
use Rattle.gltf_schema.proofs.NullFreeRows.{null_free}
use Rattle.gltf_parts.specs.Material.{normal_texture_kind, occlusion_texture_kind}
use Rattle.gltf_parts.specs.MaterialDerived.{normal_texture_no_nulls, occlusion_texture_no_nulls}
use Rattle.gltf_parts.specs.Material.{material_rows, material_members}
use Rattle.gltf_parts.proofs.material.derived.MaterialStrictObject.write_strictly.Goals as goal

pub returns : goal.returns
unfolding material_rows material_members
returns g c =
    all_written
    (write_row c.optional.ensures.optional
    (write_row (c.always.ensures.always _)
    (write_row (c.always-2.ensures.always _)
    (write_row c.optional-2.ensures.sometimes
    (write_row c.optional_strictly.ensures.optional
    (write_row c.optional_strictly-2.ensures.optional
    (write_row c.optional-3.ensures.optional
    (write_row c.optional-4.ensures.optional
    (write_row (null_free normal_texture_kind normal_texture_no_nulls c.optional-5.ensures.optional)
    (write_row (null_free occlusion_texture_kind occlusion_texture_no_nulls c.optional-6.ensures.optional)
    (write_row (c.always_strictly.ensures.always _) write_none)))))))))))
