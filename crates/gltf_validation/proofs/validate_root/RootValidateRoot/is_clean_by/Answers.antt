-- No fault is found exactly where the document has no report.
use Rattle.gltf_root.specs.Root.{root_tree}
use Rattle.gltf_validation_rules.specs.Context.{rules_of}
use Rattle.gltf_validation_rules.specs.Reports.{document_reports}
use Rattle.gltf_validation.proofs.Asking.{clean_iff}
use Rattle.gltf_validation.proofs.validate_root.RootValidateRoot.is_clean_by.Goals as goal

pub returns : goal.returns
returns c = clean_iff c.first_fault.result c.is_none.result (document_reports (rules_of c.args.rules.now) (root_tree c.args.self.now)) c.is_none.ensures c.first_fault.ensures
