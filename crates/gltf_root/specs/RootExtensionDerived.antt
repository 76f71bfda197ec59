-- Written by tools/derive.py from crates/gltf_root/specs/RootExtension.antt and
-- crates/gltf_root/src/extensions/root.rt. Do not edit.
use Rattle.gltf_root.specs.RootExtension.{lights_kind, lights_rows, root_extension_rows, root_extensions_kind, variants_kind, variants_rows}
use Rattle.gltf_scene.specs.Light.{light_rows, spot_rows, variant_rows}
use Rattle.gltf_scene.specs.LightDerived.{light_height, light_sound, variant_height, variant_sound}
use Rattle.gltf_schema.specs.Height.{IsFlat, IsHigh}
use Rattle.gltf_schema.specs.Nulls.{without_nulls}
use Rattle.gltf_schema.specs.Sound.{is_sound}
use Rattle.std.specs.Prelude.{refl, true, ◌≡◌}

pub lights_sound : is_sound lights_kind ≡ true
unfolding lights_rows
lights_sound = rw light_sound refl

pub variants_sound : is_sound variants_kind ≡ true
unfolding variants_rows
variants_sound = rw variant_sound refl

pub root_extension_sound : is_sound root_extensions_kind ≡ true
unfolding root_extension_rows
root_extension_sound = rw (lights_sound, variants_sound) refl

pub root_extension_no_nulls : without_nulls root_extensions_kind ≡ root_extensions_kind
unfolding root_extension_rows lights_rows variants_rows light_rows variant_rows spot_rows
root_extension_no_nulls = refl

pub lights_height : IsHigh 3 lights_kind
unfolding lights_rows
lights_height = rw (light_height.0, light_height.1) (refl, refl)

pub variants_height : IsFlat variants_kind
unfolding variants_rows
variants_height = rw variant_height.0 (refl, refl)

pub root_extension_height : IsHigh 4 root_extensions_kind
unfolding root_extension_rows
root_extension_height = rw (lights_height.0, lights_height.1, variants_height.0) (refl, refl)
