-- Written by tools/derive.py from crates/gltf_scene/src/asset.rt and
-- crates/gltf_scene/specs/Asset.antt. Do not edit.
-- Each row is read in the table's order.
use Rattle.gltf_schema.proofs.RowByRow.{all_read, read_none, read_row}
use Rattle.gltf_scene.specs.Asset.{asset_rows, asset_members}
use Rattle.gltf_scene.proofs.asset.derived.AssetObject.read_rows.Goals as goal

pub returns : goal.returns
unfolding asset_rows asset_members
returns g c =
    all_read
    (read_row c.optional.ensures.left_out
    (read_row c.optional-2.ensures.left_out
    (read_row c.optional-3.ensures.left_out
    (read_row c.required.ensures
    (read_row c.optional-4.ensures.left_out
    (read_row c.optional-5.ensures.left_out read_none))))))
