use Rattle.gltf_schema.specs.Tree.{absent}
use Rattle.gltf_root.specs.Pushed.{pushed}
use Rattle.gltf_root.specs.Root.{root_tree}
use Rattle.gltf_validation_rules.proofs.LongerLists.{grows}
use Rattle.gltf_validation_rules.proofs.Pushes.{reports_same}
use Rattle.gltf_validation_rules.proofs.laws.pushes_leave_other_reports.Goals as goal

pub returns : goal.returns
returns c rules r named x kind t above base sound off =
    reports_same rules named x (root_tree r) (pushed named x (root_tree r)) (grows named x r) kind t absent above base sound off
