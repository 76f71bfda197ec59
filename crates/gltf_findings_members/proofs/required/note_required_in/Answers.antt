-- A step to the list, its items, and a step up.
use Rattle.std.proofs.Common.{◌++◌, ◌∙◌, [], ◌∷◌, ap, sym, option_map}
use Rattle.serde_json.specs.View.{items_view}
use Rattle.gltf_base.specs.Steps.{field}
use Rattle.gltf_findings_members.specs.Noted.{steps_in, noted_in}
use Rattle.gltf_findings_members.specs.Required.{lacking_notices, lacking_in}
use Rattle.gltf_findings_members.proofs.Stepping.{back}
use Rattle.gltf_findings_members.proofs.required.note_required_in.Goals as goal

pub returns : goal.returns
returns c =
    let to = c.args.to.now in
    let at = steps_in to in
    let list = c.args.list.now in
    let n = c.args.name.now in
    let items = c.in-Some.items.now.items in
    let found = sym c.items_at.ensures ∙ ap (option_map (λ v. items_view v.now.items)) c.in-Some.is in
    let turn = back (λ a. lacking_notices a n 0 (items_view items)) (field list) at (steps_in c.enter.new.self) (steps_in c.note_lacking.new.to) (steps_in c.leave.new.self)
    (noted_in to) (noted_in c.enter.new.self) (noted_in c.note_lacking.new.to) (noted_in c.leave.new.self)
    c.in_ok-enter.ensures.steps c.in_ok-enter.ensures.notices c.in_ok-note_lacking.ensures.0
    (c.in_ok-note_lacking.ensures.1 ∙ ap (λ xs. noted_in c.enter.new.self ++ lacking_notices (steps_in c.enter.new.self) n 0 (items_view xs)) c.deref.ensures.value)
    c.leave.ensures.steps c.leave.ensures.notices in (
      turn.0,
      turn.1 ∙ ap (λ o. noted_in to ++ lacking_in (at ++ field list ∷ []) n o) (sym found),
    )
