use Rattle.gltf_validation_rules.proofs.KeyFound.{key_found}
use Rattle.gltf_validation_rules.proofs.laws.further.attributes_spelled_as_their_keys_are_found.Goals as goal

pub returns : goal.returns
returns c steps d text lead is spelled = key_found steps d text lead is spelled
