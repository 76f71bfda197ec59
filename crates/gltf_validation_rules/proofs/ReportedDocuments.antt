-- What is invalid in a document is reported.
use Rattle.gltf_root.specs.Root.{root_kind, root_tree}
use Rattle.gltf_root.specs.declared.root.Root.{Root}
use Rattle.gltf_validation_rules.proofs.InvalidReported.{IsReported, reported_object}
use Rattle.gltf_validation_rules.proofs.ReportedRoot.{root_reported}

pub document_reported : (v : Root) → IsReported root_kind (root_tree v)
document_reported v = reported_object _ _ _ _ _ (root_reported v)
