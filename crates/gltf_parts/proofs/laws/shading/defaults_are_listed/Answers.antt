use Rattle.std.proofs.Common.{refl}
use Rattle.std.specs.Float.Ieee.{of_bits, round}
use Rattle.gltf_parts.proofs.laws.shading.defaults_are_listed.Goals as goal

pub returns-clause-strength : goal.returns-clause-strength
unfolding of_bits
returns-clause-strength c = refl

pub returns-clause-diffuse : goal.returns-clause-diffuse
unfolding of_bits
returns-clause-diffuse c = refl

pub returns-clause-specular_color_of_glossiness : goal.returns-clause-specular_color_of_glossiness
unfolding of_bits
returns-clause-specular_color_of_glossiness c = refl

pub returns-clause-transmission : goal.returns-clause-transmission
unfolding of_bits
returns-clause-transmission c = refl

pub returns-clause-thickness : goal.returns-clause-thickness
unfolding of_bits
returns-clause-thickness c = refl

pub returns-clause-attenuation_color : goal.returns-clause-attenuation_color
unfolding of_bits
returns-clause-attenuation_color c = refl

pub returns-clause-specular : goal.returns-clause-specular
unfolding of_bits
returns-clause-specular c = refl

pub returns-clause-specular_color : goal.returns-clause-specular_color
unfolding of_bits
returns-clause-specular_color c = refl

pub returns-clause-refraction : goal.returns-clause-refraction
unfolding of_bits round
returns-clause-refraction c = refl

pub returns-clause-emissive_strength : goal.returns-clause-emissive_strength
unfolding of_bits
returns-clause-emissive_strength c = refl
