-- One report more.
use Rattle.std.proofs.Common.{◌∙◌, ap, arith, subst}
use Rattle.gltf_validation_walk.specs.ToCome.{to_come_in, path_in}
use Rattle.gltf_validation.proofs.Handing.{Handing, handing-more}
use Rattle.gltf_validation.proofs.validation.table.hand_over.Goals as goal

pub loop-error-preserved : goal.loop-error-preserved
loop-error-preserved g c =
    let s = g.S.Sink in
    let old = s.state c.args.sink.now in
    let all = to_come_in c.args.walk.now in
    let now = s.state c.loop-error.sink in
    let next = rw c.in-Ok-Some.field-0-is at c.in-Ok-Some.ensures.next in
    let due = subst (λ rs. Handing s.next old all rs now) next.0 c.loop-error.invariant.handing in
    record {
      handing = handing-more s.next old now _ all _ (path_in c.next_report.new.self) c.in-Ok-Some.error due
          (c.in_default.ensures.taken ∙ ap (λ steps. s.next now steps c.in-Ok-Some.error) c.steps.ensures);
      base = omega (arith, next.1, c.loop-error.invariant.base);
      depth = omega (arith, c.next_report.ensures.depth, c.loop-error.invariant.depth);
    }
