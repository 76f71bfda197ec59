use Rattle.std.proofs.Common.{refl}
use Rattle.std.specs.Float.Ieee.{of_bits, round}
use Rattle.gltf_scene.proofs.laws.defaults_are_listed.Goals as goal

pub returns-clause-translation : goal.returns-clause-translation
unfolding of_bits
returns-clause-translation c = refl

pub returns-clause-rotation : goal.returns-clause-rotation
unfolding of_bits
returns-clause-rotation c = refl

pub returns-clause-scale : goal.returns-clause-scale
unfolding of_bits
returns-clause-scale c = refl

pub returns-clause-intensity : goal.returns-clause-intensity
unfolding of_bits
returns-clause-intensity c = refl

pub returns-clause-color : goal.returns-clause-color
unfolding of_bits
returns-clause-color c = refl

pub returns-clause-inner_cone_angle : goal.returns-clause-inner_cone_angle
unfolding of_bits
returns-clause-inner_cone_angle c = refl

pub returns-clause-outer_cone_angle : goal.returns-clause-outer_cone_angle
unfolding of_bits round
returns-clause-outer_cone_angle c = refl
