-- Written by tools/derive.py from crates/gltf_scene/src/extensions/scene/khr_materials_variants.rt
-- and crates/gltf_scene/specs/Light.antt. Do not edit.
-- Each row is written in the order of the names.
use Rattle.gltf_schema.proofs.RowsWritten.{all_written, write_none, write_row}
use Rattle.gltf_scene.specs.Light.{variant_rows, variant_members}
use Rattle.gltf_scene.proofs.extensions.scene.khr_materials_variants.derived.VariantObject.write_members.Goals as goal

pub returns : goal.returns
unfolding variant_rows variant_members
returns g c =
    all_written
    (write_row c.always.ensures.required write_none)
