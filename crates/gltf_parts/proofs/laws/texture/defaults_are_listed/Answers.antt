use Rattle.std.proofs.Common.{refl}
use Rattle.std.specs.Float.Ieee.{of_bits}
use Rattle.gltf_parts.proofs.laws.texture.defaults_are_listed.Goals as goal

pub returns-clause-offset : goal.returns-clause-offset
unfolding of_bits
returns-clause-offset c = refl

pub returns-clause-rotation : goal.returns-clause-rotation
unfolding of_bits
returns-clause-rotation c = refl

pub returns-clause-scale : goal.returns-clause-scale
unfolding of_bits
returns-clause-scale c = refl
