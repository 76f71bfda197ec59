-- One finding more has none.
use Rattle.std.proofs.Common.{◌+◌, take, sym, subst, arith}
use Rattle.std.specs.List.{AllZip}
use Rattle.gltf_findings_lines.specs.Placed.{HasNone}
use Rattle.gltf_findings_lines.proofs.Placing.{none_more}
use Rattle.gltf_findings_lines.proofs.placed.without_positions.Goals as goal

pub loop-one-preserved : goal.loop-one-preserved
loop-one-preserved c =
    let shown = c.args.shown.now in
    let i = c.loop-one.one-index in
    subst (AllZip HasNone (take (i + 1) shown)) (sym c.in_ok-push.ensures.items) (none_more shown c.loop-one.placed.items i _ (omega arith) c.loop-one.invariant)
