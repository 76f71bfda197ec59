-- Each turn of a loop goes a step down, notices what is wrong there, and goes up again.
use Rattle.std.proofs.Common.{◌≡◌, ◌++◌, ◌+◌, ◌∙◌, [], ◌∷◌, true, ap, sym, drop, option_map, string_bytes, append_assoc, arith}
use Rattle.std.proofs.lemmas.List.{drop_more}
use Rattle.serde_json.specs.View.{view, items_view, members_view}
use Rattle.serde_json.proofs.Views.{Entry}
use Rattle.gltf_base.specs.Steps.{field, item}
use Rattle.gltf_findings_members.specs.Format.{format_of, undeclared_code}
use Rattle.gltf_findings_members.specs.Noted.{steps_in, noted_in, maybe_note}
use Rattle.gltf_findings_members.specs.Walk.{notices, item_notices, member_notice, member_notices, extension_notice, extension_members_notices}
use Rattle.gltf_findings_members.proofs.Stepping.{back, on}
use Rattle.gltf_findings_members.proofs.walk.+walk.Goals as goal

pub note_items-loop-number-preserved : goal.note_items-loop-number-preserved
note_items-loop-number-preserved t c =
    let l = c.loop-number in
    let at = steps_in c.args.to.now in
    let f = format_of c.args.table.now in
    let s = option_map (λ s. s.now) c.args.shape in
    let xs = c.deref-item-items.result.now in
    let i = l.number in
    let x = c.item-item.result in
    let here : drop i xs ≡ x ∷ drop (i + 1) xs = drop_more xs i x (omega arith) ∙ ap (λ y. y ∷ drop (i + 1) xs) (sym c.item-item.is) in
    let turn = back (λ a. notices f true s a (view x)) (item i) (steps_in l.to) (steps_in c.enter.new.self) (steps_in c.note_value.new.to) (steps_in c.leave.new.self)
    (noted_in l.to) (noted_in c.enter.new.self) (noted_in c.note_value.new.to) (noted_in c.leave.new.self)
    c.in_ok-enter.ensures.steps c.in_ok-enter.ensures.notices c.in_ok-note_value.ensures.0 c.in_ok-note_value.ensures.1 c.leave.ensures.steps c.leave.ensures.notices in (
      turn.0 ∙ l.invariant.0,
      on (noted_in l.to) (noted_in c.leave.new.self) (notices f true s (at ++ item i ∷ []) (view x)) (item_notices f s at i (items_view (drop i xs))) (item_notices f s at (i + 1) (items_view (drop (i + 1) xs)))
          (noted_in c.args.to.now ++ item_notices f s at 0 (items_view xs))
          (turn.1 ∙ ap (λ a. noted_in l.to ++ notices f true s (a ++ item i ∷ []) (view x)) l.invariant.0) (ap (λ ys. item_notices f s at i (items_view ys)) here) l.invariant.1,
    )

pub note_members-loop-name-preserved : goal.note_members-loop-name-preserved
note_members-loop-name-preserved t c =
    let l = c.loop-name in
    let at = steps_in c.args.to.now in
    let f = format_of c.args.table.now in
    let rows = c.args.rows.now in
    let e : Entry = (c.in-Some.name.now, c.in-Some.member.now) in
    let k = string_bytes e.0 in
    let rest = c.next.new.self in
    let turn = back (λ a. member_notice f rows a k (view e.1)) (field k) (steps_in l.to) (steps_in c.enter.new.self) (steps_in c.note_member.new.to) (steps_in c.leave.new.self)
    (noted_in l.to) (noted_in c.enter.new.self) (noted_in c.note_member.new.to) (noted_in c.leave.new.self)
    (c.in_ok-enter.ensures.steps ∙ ap (λ n. steps_in l.to ++ field n ∷ []) c.as_str.ensures.value) c.in_ok-enter.ensures.notices c.in_ok-note_member.ensures.0
    (c.in_ok-note_member.ensures.1 ∙ ap (λ n. noted_in c.enter.new.self ++ member_notice f rows (steps_in c.enter.new.self) n (view e.1)) c.as_str-in-loop-name.ensures.value)
    c.leave.ensures.steps c.leave.ensures.notices in (
      turn.0 ∙ l.invariant.0,
      on (noted_in l.to) (noted_in c.leave.new.self) (member_notice f rows (at ++ field k ∷ []) k (view e.1)) (member_notices f rows at (members_view l.name-iterator)) (member_notices f rows at (members_view rest))
          (noted_in c.args.to.now ++ member_notices f rows at (members_view c.args.members.now.entries))
          (turn.1 ∙ ap (λ a. noted_in l.to ++ member_notice f rows (a ++ field k ∷ []) k (view e.1)) l.invariant.0) (ap (λ es. member_notices f rows at (members_view es)) c.in-Some.ensures.steps) l.invariant.1,
    )

pub note_extension_members-loop-name-preserved : goal.note_extension_members-loop-name-preserved
note_extension_members-loop-name-preserved t c =
    let l = c.loop-name in
    let at = steps_in c.args.to.now in
    let f = format_of c.args.table.now in
    let rows = option_map (λ rows. rows.now.items) c.args.rows in
    let e : Entry = (c.in-Some.name.now, c.in-Some.member.now) in
    let k = string_bytes e.0 in
    let rest = c.next.new.self in
    let below = steps_in c.enter.new.self in
    let declared = steps_in c.note_some.new.self in
    let code = c.undeclared_code.ensures ∙ ap (undeclared_code f) c.as_str-in-loop-name.ensures.value in
    let first = c.in_ok-note_some.ensures.1 ∙ ap (λ o. noted_in c.enter.new.self ++ maybe_note below o) code in
    let second = c.in_ok-note_extension.ensures.1 ∙ ap (λ n. noted_in c.note_some.new.self ++ extension_notice f rows declared n (view e.1)) c.as_str-in-loop-name-2.ensures.value
    ∙ ap (λ a. noted_in c.note_some.new.self ++ extension_notice f rows a k (view e.1)) c.in_ok-note_some.ensures.0 in
    let both = second ∙ ap (λ ns. ns ++ extension_notice f rows below k (view e.1)) first ∙ append_assoc (noted_in c.enter.new.self) (maybe_note below (undeclared_code f k)) (extension_notice f rows below k (view e.1)) in
    let turn = back (λ a. maybe_note a (undeclared_code f k) ++ extension_notice f rows a k (view e.1)) (field k) (steps_in l.to) below (steps_in c.note_extension.new.to) (steps_in c.leave.new.self)
    (noted_in l.to) (noted_in c.enter.new.self) (noted_in c.note_extension.new.to) (noted_in c.leave.new.self)
    (c.in_ok-enter.ensures.steps ∙ ap (λ n. steps_in l.to ++ field n ∷ []) c.as_str.ensures.value) c.in_ok-enter.ensures.notices (c.in_ok-note_extension.ensures.0 ∙ c.in_ok-note_some.ensures.0)
    both c.leave.ensures.steps c.leave.ensures.notices in
    let here = at ++ field k ∷ [] in (
      turn.0 ∙ l.invariant.0,
      on (noted_in l.to) (noted_in c.leave.new.self) (maybe_note here (undeclared_code f k) ++ extension_notice f rows here k (view e.1)) (extension_members_notices f rows at (members_view l.name-iterator)) (extension_members_notices f rows at (members_view rest))
          (noted_in c.args.to.now ++ extension_members_notices f rows at (members_view c.args.members.now.entries))
          (turn.1 ∙ ap (λ a. noted_in l.to ++ (maybe_note (a ++ field k ∷ []) (undeclared_code f k) ++ extension_notice f rows (a ++ field k ∷ []) k (view e.1))) l.invariant.0)
          (ap (λ es. extension_members_notices f rows at (members_view es)) c.in-Some.ensures.steps) l.invariant.1,
    )
