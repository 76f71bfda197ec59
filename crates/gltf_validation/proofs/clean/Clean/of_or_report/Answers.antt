-- A root in which no report is found has none.
use Rattle.gltf_root.specs.Root.{root_tree}
use Rattle.gltf_validation_rules.specs.Context.{rules_of}
use Rattle.gltf_validation_rules.specs.Reports.{document_reports}
use Rattle.gltf_validation.proofs.FirstReports.{none_found}
use Rattle.gltf_validation.proofs.clean.Clean.of_or_report.Goals as goal

pub invariant_of-result : goal.invariant_of-result
invariant_of-result c =
    record { is_clean = none_found c.in-Ok-None.field-0 (document_reports (rules_of c.args.rules) (root_tree c.args.root)) c.in-Ok-None.field-0-is c.in-Ok-None.ensures.found }
