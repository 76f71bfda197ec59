use Rattle.gltf_validation_rules.proofs.Shifting.{from_a_base}
use Rattle.gltf_validation_rules.proofs.laws.further.reports_from_a_base_have_it_in_front.Goals as goal

pub returns : goal.returns
returns c kind t context above base = from_a_base kind t context above base
