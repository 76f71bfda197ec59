use Rattle.gltf_validation.proofs.StrippedDocuments.{stripped_document}
use Rattle.gltf_validation.proofs.laws.stripped_documents_have_the_same_reports.Goals as goal

pub returns : goal.returns
returns c rules what root = stripped_document what rules root
