use Rattle.gltf_validation_rules.proofs.PushesOnto.{clean_avoids}
use Rattle.gltf_validation_rules.proofs.laws.clean_documents_avoid_the_next_number.Goals as goal

pub returns : goal.returns
returns c rules r named clean = clean_avoids rules named r clean
