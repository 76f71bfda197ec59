-- Written by tools/derive.py from crates/gltf_scene/src/extensions/scene.rt and
-- crates/gltf_scene/specs/Scene.antt. Do not edit.
-- Each row is written in the order of the names.
use Rattle.gltf_schema.proofs.RowsWritten.{written_with_others, write_none, write_row}
use Rattle.gltf_scene.specs.Scene.{node_extension_rows, node_extension_members}
use Rattle.gltf_scene.proofs.extensions.scene.derived.NodeObject.write_members.Goals as goal

pub returns : goal.returns
unfolding node_extension_rows node_extension_members
returns g c =
    written_with_others c.others.ensures
    (write_row c.optional.ensures.optional write_none)
