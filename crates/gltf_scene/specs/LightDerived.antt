-- Written by tools/derive.py from crates/gltf_scene/specs/Light.antt,
-- crates/gltf_scene/src/extensions/scene/khr_lights_punctual.rt and
-- crates/gltf_scene/src/extensions/scene/khr_materials_variants.rt. Do not edit.
use Rattle.gltf_scene.specs.Light.{light_kind, light_of_node_kind, light_of_node_rows, light_rows, spot_kind, spot_rows, variant_kind, variant_rows}
use Rattle.gltf_schema.specs.Height.{IsFlat, IsHigh}
use Rattle.gltf_schema.specs.Sound.{is_sound}
use Rattle.std.specs.Prelude.{refl, true, ◌≡◌}

pub light_of_node_sound : is_sound light_of_node_kind ≡ true
unfolding light_of_node_rows
light_of_node_sound = refl

pub spot_sound : is_sound spot_kind ≡ true
unfolding spot_rows
spot_sound = refl

pub light_sound : is_sound light_kind ≡ true
unfolding light_rows
light_sound = rw spot_sound refl

pub variant_sound : is_sound variant_kind ≡ true
unfolding variant_rows
variant_sound = refl

pub light_of_node_height : IsHigh 1 light_of_node_kind
unfolding light_of_node_rows
light_of_node_height = (refl, refl)

pub spot_height : IsFlat spot_kind
unfolding spot_rows
spot_height = (refl, refl)

pub light_height : IsHigh 1 light_kind
unfolding light_rows
light_height = rw spot_height.0 (refl, refl)

pub variant_height : IsFlat variant_kind
unfolding variant_rows
variant_height = (refl, refl)
