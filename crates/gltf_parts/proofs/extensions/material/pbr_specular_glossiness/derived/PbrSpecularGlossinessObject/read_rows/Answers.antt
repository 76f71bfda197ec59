-- Written by tools/derive.py from
-- crates/gltf_parts/src/extensions/material/pbr_specular_glossiness.rt and
-- crates/gltf_parts/specs/MaterialExtension.antt. Do not edit.
-- Each row is read in the table's order.
use Rattle.gltf_schema.proofs.RowByRow.{all_kept, read_none, read_row}
use Rattle.gltf_parts.specs.MaterialExtension.{pbr_specular_glossiness_rows, pbr_specular_glossiness_members}
use Rattle.gltf_parts.proofs.extensions.material.pbr_specular_glossiness.derived.PbrSpecularGlossinessObject.read_rows.Goals as goal

pub returns : goal.returns
unfolding pbr_specular_glossiness_rows pbr_specular_glossiness_members
returns g c =
    all_kept
    (read_row c.sometimes.ensures
    (read_row c.optional.ensures.left_out
    (read_row c.sometimes-2.ensures
    (read_row c.sometimes-3.ensures
    (read_row c.optional-2.ensures.left_out
    (read_row c.optional-3.ensures.left_out read_none)))))) c.others.ensures
