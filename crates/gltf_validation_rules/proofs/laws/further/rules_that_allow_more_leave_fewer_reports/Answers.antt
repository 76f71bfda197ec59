use Rattle.std.proofs.Common.{[]}
use Rattle.gltf_schema.specs.Tree.{absent}
use Rattle.gltf_root.specs.Root.{root_kind}
use Rattle.gltf_validation_rules.proofs.Widening.{of_none, reports_fewer}
use Rattle.gltf_validation_rules.proofs.laws.further.rules_that_allow_more_leave_fewer_reports.Goals as goal

pub returns-clause-fewer : goal.returns-clause-fewer
returns-clause-fewer c narrow wide kind t root above base more = reports_fewer narrow wide more root kind t above base

pub returns-clause-clean : goal.returns-clause-clean
returns-clause-clean c narrow wide root more none = of_none (reports_fewer narrow wide more root root_kind root absent []) none
