-- Each turn of the loop goes a step down, notices what is missing, and goes up again.
use Rattle.std.proofs.Common.{◌≡◌, ◌++◌, ◌+◌, ◌∙◌, [], ◌∷◌, ap, sym, drop, arith}
use Rattle.std.proofs.lemmas.List.{drop_more}
use Rattle.serde_json.specs.View.{view, items_view}
use Rattle.gltf_base.specs.Steps.{field, item}
use Rattle.gltf_findings_members.specs.Noted.{steps_in, noted_in, maybe_note}
use Rattle.gltf_findings_members.specs.Required.{lacking_code, lacking_notices}
use Rattle.gltf_findings_members.proofs.Stepping.{back, on}
use Rattle.gltf_findings_members.proofs.required.note_lacking.Goals as goal

pub loop-number-preserved : goal.loop-number-preserved
loop-number-preserved c =
    let l = c.loop-number in
    let at = steps_in c.args.to.now in
    let n = c.args.name.now in
    let xs = c.args.items.now in
    let i = l.number in
    let x = c.index-items-number.result in
    let here : drop i xs ≡ x ∷ drop (i + 1) xs = drop_more xs i x (omega arith) ∙ ap (λ y. y ∷ drop (i + 1) xs) (sym c.index-items-number.is) in
    let turn = back (λ a. maybe_note (a ++ field n ∷ []) (lacking_code n (view x))) (item i) (steps_in l.to) (steps_in c.enter.new.self) (steps_in c.note_below.new.self) (steps_in c.leave.new.self)
    (noted_in l.to) (noted_in c.enter.new.self) (noted_in c.note_below.new.self) (noted_in c.leave.new.self)
    c.in_ok-enter.ensures.steps c.in_ok-enter.ensures.notices c.in_ok-note_below.ensures.0
    (c.in_ok-note_below.ensures.1 ∙ ap (λ o. noted_in c.enter.new.self ++ maybe_note (steps_in c.enter.new.self ++ field n ∷ []) o) c.lacking_code.ensures)
    c.leave.ensures.steps c.leave.ensures.notices in (
      turn.0 ∙ l.invariant.0,
      on (noted_in l.to) (noted_in c.leave.new.self) (maybe_note ((at ++ item i ∷ []) ++ field n ∷ []) (lacking_code n (view x))) (lacking_notices at n i (items_view (drop i xs))) (lacking_notices at n (i + 1) (items_view (drop (i + 1) xs)))
          (noted_in c.args.to.now ++ lacking_notices at n 0 (items_view xs))
          (turn.1 ∙ ap (λ a. noted_in l.to ++ maybe_note ((a ++ item i ∷ []) ++ field n ∷ []) (lacking_code n (view x))) l.invariant.0) (ap (λ ys. lacking_notices at n i (items_view ys)) here) l.invariant.1,
    )
