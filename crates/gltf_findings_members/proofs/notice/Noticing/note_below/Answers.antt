-- A step down, a notice, and a step up.
use Rattle.gltf_base.specs.Steps.{step_of}
use Rattle.gltf_findings_members.specs.Noted.{steps_in, noted_in, maybe_note}
use Rattle.gltf_findings_members.proofs.Stepping.{back}
use Rattle.gltf_findings_members.proofs.notice.Noticing.note_below.Goals as goal

pub returns-in_ok-note_some : goal.returns-in_ok-note_some
returns-in_ok-note_some c =
    let self = c.args.self.now in
    let entered = c.enter.new.self in
    let there = c.note_some.new.self in
    let above = c.leave.new.self in
    back (λ at. maybe_note at c.args.code) (step_of c.args.step) (steps_in self) (steps_in entered) (steps_in there) (steps_in above)
    (noted_in self) (noted_in entered) (noted_in there) (noted_in above)
    c.in_ok-enter.ensures.steps c.in_ok-enter.ensures.notices c.in_ok-note_some.ensures.0 c.in_ok-note_some.ensures.1 c.leave.ensures.steps c.leave.ensures.notices
