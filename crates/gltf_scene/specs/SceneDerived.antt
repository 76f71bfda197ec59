-- Written by tools/derive.py from crates/gltf_scene/specs/Scene.antt,
-- crates/gltf_scene/src/extensions/scene.rt, crates/gltf_scene/src/scene.rt and
-- crates/gltf_scene/src/skin.rt. Do not edit.
use Rattle.gltf_scene.specs.Light.{light_of_node_rows}
use Rattle.gltf_scene.specs.LightDerived.{light_of_node_height, light_of_node_sound}
use Rattle.gltf_scene.specs.Scene.{node_extension_rows, node_extensions_kind, node_kind, node_rows, scene_kind, scene_rows, skin_kind, skin_rows}
use Rattle.gltf_schema.specs.Height.{IsHigh}
use Rattle.gltf_schema.specs.Nulls.{without_nulls}
use Rattle.gltf_schema.specs.Sound.{is_sound}
use Rattle.std.specs.Prelude.{refl, true, ◌≡◌}

pub node_extension_sound : is_sound node_extensions_kind ≡ true
unfolding node_extension_rows
node_extension_sound = rw light_of_node_sound refl

pub node_sound : is_sound node_kind ≡ true
unfolding node_rows
node_sound = rw node_extension_sound refl

pub node_no_nulls : without_nulls node_kind ≡ node_kind
unfolding node_rows node_extension_rows light_of_node_rows
node_no_nulls = refl

pub scene_sound : is_sound scene_kind ≡ true
unfolding scene_rows
scene_sound = refl

pub scene_no_nulls : without_nulls scene_kind ≡ scene_kind
unfolding scene_rows
scene_no_nulls = refl

pub skin_sound : is_sound skin_kind ≡ true
unfolding skin_rows
skin_sound = refl

pub skin_no_nulls : without_nulls skin_kind ≡ skin_kind
unfolding skin_rows
skin_no_nulls = refl

pub node_extension_height : IsHigh 2 node_extensions_kind
unfolding node_extension_rows
node_extension_height = rw (light_of_node_height.0, light_of_node_height.1) (refl, refl)

pub node_height : IsHigh 3 node_kind
unfolding node_rows
node_height = rw (node_extension_height.0, node_extension_height.1) (refl, refl)

pub scene_height : IsHigh 2 scene_kind
unfolding scene_rows
scene_height = (refl, refl)

pub skin_height : IsHigh 2 skin_kind
unfolding skin_rows
skin_height = (refl, refl)
