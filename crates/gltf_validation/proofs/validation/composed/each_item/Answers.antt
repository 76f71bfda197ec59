-- One item after another.
use Rattle.std.proofs.Common.{rules, arith, ◌+◌, ◌++◌, ◌∷◌, [], drop}
use Rattle.gltf_base.specs.Steps.{item}
use Rattle.gltf_validation.specs.ByType.{reports_in}
use Rattle.gltf_validation_rules.specs.Report.{each_at}
use Rattle.gltf_validation_rules.proofs.Loops.{underway-begin, underway-same, underway-more, underway-exit, underway-end, each_at-next, each_at-past}
use Rattle.gltf_validation.proofs.validation.composed.each_item.Goals as goal

pub loop-i-init : goal.loop-i-init
loop-i-init g c =
    let v = g.T.Validate in
    underway-begin _ _ (each_at (reports_in v.kind v.tree v.own (g.C.HasContext.context c.args.context.now)) 0 c.args.items.now.items)

pub loop-i-preserved : goal.loop-i-preserved
loop-i-preserved g c =
    let v = g.T.Validate in
    let each = reports_in v.kind v.tree v.own (g.C.HasContext.context c.args.context.now) in
    let xs = c.args.items.now.items in
    underway-more (λ base. each c.item-item.result (base ++ item c.loop-i.i ∷ [])) (each_at each (c.loop-i.i + 1) (drop (c.loop-i.i + 1) xs))
    (underway-same {all = each_at each 0 xs} (each_at-next each _ xs c.item-item.result (omega arith) (search rules)) c.loop-i.invariant) c.in_ok-within.ensures

pub returns-in_err-within : goal.returns-in_err-within
returns-in_err-within g c =
    let v = g.T.Validate in
    let each = reports_in v.kind v.tree v.own (g.C.HasContext.context c.args.context.now) in
    let xs = c.args.items.now.items in
    underway-exit (λ base. each c.item-item.result (base ++ item c.loop-i.i ∷ [])) (each_at each (c.loop-i.i + 1) (drop (c.loop-i.i + 1) xs)) c.from_residual.ensures.1
    (underway-same {all = each_at each 0 xs} (each_at-next each _ xs c.item-item.result (omega arith) (search rules)) c.loop-i.invariant) c.in_err-within.ensures

pub returns : goal.returns
returns g c =
    let v = g.T.Validate in
    let each = reports_in v.kind v.tree v.own (g.C.HasContext.context c.args.context.now) in
    let xs = c.args.items.now.items in
    underway-end (underway-same {all = each_at each 0 xs} (each_at-past each _ xs (omega arith)) c.loop-i.invariant)
