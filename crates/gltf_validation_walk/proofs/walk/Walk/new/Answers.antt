-- The walk goes by the standard rules.
use Rattle.std.proofs.Common.{◌∙◌, ap}
use Rattle.gltf_root.specs.Root.{root_tree}
use Rattle.gltf_validation_rules.specs.Reports.{document_reports}
use Rattle.gltf_validation_walk.proofs.walk.Walk.new.Goals as goal

pub returns-clause-reports : goal.returns-clause-reports
returns-clause-reports c = c.with_rules.ensures.reports ∙ ap (λ rules. document_reports rules (root_tree c.args.root.now)) c.new.ensures
