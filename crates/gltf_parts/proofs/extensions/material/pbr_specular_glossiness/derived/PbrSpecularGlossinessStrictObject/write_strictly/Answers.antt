-- Written by tools/derive.py from
-- crates/gltf_parts/src/extensions/material/pbr_specular_glossiness.rt and
-- crates/gltf_parts/specs/MaterialExtension.antt. Do not edit.
-- Each row is written in the order of the names.
use Rattle.gltf_schema.proofs.RowsWritten.{written_with_others, write_none, write_row}
use Rattle.gltf_parts.specs.MaterialExtension.{pbr_specular_glossiness_rows, pbr_specular_glossiness_members}
use Rattle.gltf_parts.proofs.extensions.material.pbr_specular_glossiness.derived.PbrSpecularGlossinessStrictObject.write_strictly.Goals as goal

pub returns : goal.returns
unfolding pbr_specular_glossiness_rows pbr_specular_glossiness_members
returns g c =
    written_with_others c.others.ensures
    (write_row c.optional.ensures.sometimes
    (write_row c.optional_strictly.ensures.optional
    (write_row c.optional-2.ensures.optional
    (write_row c.optional-3.ensures.sometimes
    (write_row c.optional-4.ensures.sometimes
    (write_row c.optional_strictly-2.ensures.optional write_none))))))
