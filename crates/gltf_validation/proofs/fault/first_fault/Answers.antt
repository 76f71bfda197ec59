-- The sink refuses the first report, and was asked to take none where it took all.
use Rattle.gltf_validation_rules.specs.Report.{From}
use Rattle.gltf_root.specs.Root.{root_tree}
use Rattle.gltf_validation_rules.specs.Context.{rules_of, under}
use Rattle.gltf_validation.specs.ByType.{reports_by}
use Rattle.gltf_validation.proofs.Sinking.{told_none, told_first}
use Rattle.gltf_validation.proofs.fault.first_fault.Goals as goal

pub returns-in-Ok : goal.returns-in-Ok
returns-in-Ok g c =
    let v = g.V.Validate in
    let all : From = reports_by v.kind (v.tree c.args.value.now) (v.own c.args.value.now) (under (rules_of c.args.rules.now) (root_tree c.args.root.now)) in
    told_none all c.new.result c.new.ensures c.in-Ok.ensures.walked.handed

pub returns-in-Err-Sink : goal.returns-in-Err-Sink
returns-in-Err-Sink g c =
    let v = g.V.Validate in
    let all : From = reports_by v.kind (v.tree c.args.value.now) (v.own c.args.value.now) (under (rules_of c.args.rules.now) (root_tree c.args.root.now)) in
    told_first all c.new.result _ c.in-Err-Sink.field-0 c.in-Err-Sink.error c.new.ensures c.in-Err-Sink.field-0-is c.in-Err-Sink.ensures.walked.handed
