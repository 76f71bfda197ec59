-- Written by tools/derive.py from crates/gltf_scene/src/asset.rt and
-- crates/gltf_scene/specs/Asset.antt. Do not edit.
-- Each row is written in the order of the names.
use Rattle.gltf_schema.proofs.RowsWritten.{all_written, write_none, write_row}
use Rattle.gltf_scene.specs.Asset.{asset_rows, asset_members}
use Rattle.gltf_scene.proofs.asset.derived.AssetObject.write_members.Goals as goal

pub returns : goal.returns
unfolding asset_rows asset_members
returns g c =
    all_written
    (write_row c.optional.ensures.optional
    (write_row c.optional-2.ensures.optional
    (write_row c.optional-3.ensures.optional
    (write_row c.optional-4.ensures.optional
    (write_row c.optional-5.ensures.optional
    (write_row c.always.ensures.required write_none))))))
