-- Written by tools/derive.py from crates/gltf_parts/src/extensions/texture.rt and
-- crates/gltf_parts/specs/Texture.antt. Do not edit.
-- Each row is read in the table's order.
use Rattle.gltf_schema.proofs.RowByRow.{all_kept, read_none, read_row}
use Rattle.gltf_parts.specs.Texture.{info_extension_rows, info_extension_members}
use Rattle.gltf_parts.proofs.extensions.texture.derived.InfoObject.read_rows.Goals as goal

pub returns : goal.returns
unfolding info_extension_rows info_extension_members
returns g c =
    all_kept
    (read_row c.optional.ensures.left_out read_none) c.others.ensures
