use Rattle.gltf_validation_rules.proofs.PushesOnto.{onto_clean}
use Rattle.gltf_validation_rules.proofs.laws.pushes_onto_clean_documents.Goals as goal

pub returns : goal.returns
returns c rules r named x clean = onto_clean rules named x r clean
