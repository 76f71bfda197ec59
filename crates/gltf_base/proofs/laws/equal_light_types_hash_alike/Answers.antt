-- Two light types write different numbers to a hasher just where they differ.
use native.Mathlib.Omega.{arith}
use Rattle.std.specs.Hash.{le_bytes}
use Rattle.gltf_base.specs.declared.extensions.scene.khr_lights_punctual.LightType.TheVariants as light_type
use Rattle.gltf_base.proofs.laws.equal_light_types_hash_alike.Goals as goal

pub returns : goal.returns
unfolding le_bytes
returns c light_type.Directional light_type.Directional = grind arith
returns c light_type.Directional light_type.Point = grind arith
returns c light_type.Directional light_type.Spot = grind arith
returns c light_type.Point light_type.Directional = grind arith
returns c light_type.Point light_type.Point = grind arith
returns c light_type.Point light_type.Spot = grind arith
returns c light_type.Spot light_type.Directional = grind arith
returns c light_type.Spot light_type.Point = grind arith
returns c light_type.Spot light_type.Spot = grind arith
