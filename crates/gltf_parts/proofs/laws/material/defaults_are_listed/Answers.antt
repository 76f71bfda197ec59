use Rattle.std.proofs.Common.{refl}
use Rattle.std.specs.Float.Ieee.{of_bits, round}
use Rattle.gltf_parts.proofs.laws.material.defaults_are_listed.Goals as goal

pub returns-clause-alpha_cutoff : goal.returns-clause-alpha_cutoff
unfolding of_bits round
returns-clause-alpha_cutoff c = refl

pub returns-clause-emissive : goal.returns-clause-emissive
unfolding of_bits
returns-clause-emissive c = refl

pub returns-clause-scale : goal.returns-clause-scale
unfolding of_bits
returns-clause-scale c = refl

pub returns-clause-base_color : goal.returns-clause-base_color
unfolding of_bits
returns-clause-base_color c = refl
