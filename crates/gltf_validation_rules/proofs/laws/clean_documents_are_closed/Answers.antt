use Rattle.std.proofs.Common.{[]}
use Rattle.gltf_schema.specs.Tree.{absent}
use Rattle.gltf_validation_rules.specs.Context.{under}
use Rattle.gltf_validation_rules.specs.Reports.{document_reports}
use Rattle.gltf_root.specs.Root.{root_kind, root_tree}
use Rattle.gltf_validation_rules.proofs.CleanIsClosed.{clean_is_closed}
use Rattle.gltf_validation_rules.proofs.Counting.{none_counted}
use Rattle.gltf_validation_rules.proofs.laws.clean_documents_are_closed.Goals as goal

pub returns-clause-clean : goal.returns-clause-clean
returns-clause-clean c rules r clean = clean_is_closed (under rules (root_tree r)) root_kind (root_tree r) absent [] clean

pub returns-clause-none_counted : goal.returns-clause-none_counted
returns-clause-none_counted c rules r none =
    clean_is_closed (under rules (root_tree r)) root_kind (root_tree r) absent [] (none_counted (document_reports rules (root_tree r)) none)
