-- The entries that the iterator has left are to come.
use Rattle.gltf_validation.specs.ByType.{reports_in, each_entry}
use Rattle.gltf_validation_rules.proofs.Loops.{Underway}
use Rattle.gltf_validation.proofs.validation.maps.entries_of.Given as goal

abbrev pub invariant-loop-key : goal.invariant-loop-key
invariant-loop-key g l =
    let k = g.K.Validate in
    let v = g.V.Validate in
    let each = each_entry g.K.KeyStep.key_text (reports_in k.kind k.tree k.own (g.C.HasContext.context l.context)) (reports_in v.kind v.tree v.own (g.C.HasContext.context l.context)) in
    Underway g.S.Sink.next g.S.Sink.refuses l.fn.path (g.S.Sink.state l.fn.sink) (each l.map.entries) (each l.key-iterator) l.path (g.S.Sink.state l.sink)
