-- Written by tools/derive.py from crates/gltf_scene/specs/Asset.antt and
-- crates/gltf_scene/src/asset.rt. Do not edit.
use Rattle.gltf_scene.specs.Asset.{asset_kind, asset_rows}
use Rattle.gltf_schema.specs.Height.{IsFlat}
use Rattle.gltf_schema.specs.Nulls.{without_nulls}
use Rattle.gltf_schema.specs.Sound.{is_sound}
use Rattle.std.specs.Prelude.{refl, true, ◌≡◌}

pub asset_sound : is_sound asset_kind ≡ true
unfolding asset_rows
asset_sound = refl

pub asset_no_nulls : without_nulls asset_kind ≡ asset_kind
unfolding asset_rows
asset_no_nulls = refl

pub asset_height : IsFlat asset_kind
unfolding asset_rows
asset_height = (refl, refl)
