-- Written by tools/derive.py from crates/gltf_scene/src/extensions/mesh.rt and
-- crates/gltf_scene/specs/Mesh.antt. Do not edit.
-- Each row is written in the order of the names.
use Rattle.gltf_schema.proofs.RowsWritten.{all_written, write_none, write_row}
use Rattle.gltf_scene.specs.Mesh.{variant_mapping_rows, variant_mapping_members}
use Rattle.gltf_scene.proofs.extensions.mesh.derived.MappingObject.write_members.Goals as goal

pub returns : goal.returns
unfolding variant_mapping_rows variant_mapping_members
returns g c =
    all_written
    (write_row c.always.ensures.required
    (write_row c.always-2.ensures.required write_none))
