-- The items from the number on are to come.
use Rattle.std.proofs.Common.{drop}
use Rattle.gltf_validation.specs.ByType.{reports_in}
use Rattle.gltf_validation_rules.specs.Report.{each_at}
use Rattle.gltf_validation_rules.proofs.Loops.{Underway}
use Rattle.gltf_validation.proofs.validation.composed.each_item.Given as goal

abbrev pub invariant-loop-i : goal.invariant-loop-i
invariant-loop-i g l =
    let v = g.T.Validate in
    let each = reports_in v.kind v.tree v.own (g.C.HasContext.context l.context) in
    Underway g.S.Sink.next g.S.Sink.refuses l.fn.path (g.S.Sink.state l.fn.sink) (each_at each 0 l.items.items) (each_at each l.i (drop l.i l.items.items)) l.path (g.S.Sink.state l.sink)
