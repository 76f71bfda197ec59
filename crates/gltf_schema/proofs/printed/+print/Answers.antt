use Rattle.std.proofs.Common.{◌≡◌, ◌+◌, [], ◌∷◌, ◌++◌, drop, sym, ap, ◌∙◌, subst, arith, rules, append_assoc, append-nil}
use Rattle.std.proofs.lemmas.List.{drop_more, drop_all}
use Rattle.std.proofs.lemmas.Result.{on_ok_weaker}
use Rattle.serde_json.specs.View.{view, items_view}
use Rattle.serde_json.specs.Written.{WritesValue, WritesItems}
use Rattle.serde_json.proofs.Views.{Entry, view-Array, view-Object}
use Rattle.gltf_schema.proofs.PartsPrinted.{Reaches, object_behind, reaches_next, reaches_end}
use Rattle.gltf_schema.proofs.InTokens.{array_printed, item_printed, items_end}
use Rattle.gltf_schema.proofs.printed.+print.Goals as goal

pub print_value-returns-in_ok-begin_array-in-Array-clause-ok : goal.print_value-returns-in_ok-begin_array-in-Array-clause-ok
print_value-returns-in_ok-begin_array-in-Array-clause-ok g t c =
    let seen = ap view c.in-Array.is ∙ view-Array c.in-Array.items in
    on_ok_weaker c.print_items.result
    (λ w. subst (λ d. WritesValue d (g.W.Tokens.written c.args.out.now) (g.W.Tokens.written c.print_items.new.out)) (sym seen) (array_printed _ _ _ _ c.in_ok-begin_array-in-Array.ensures.ok w)) c.print_items.ensures.ok

pub print_value-returns-in_ok-begin_object-in-Object-clause-ok : goal.print_value-returns-in_ok-begin_object-in-Object-clause-ok
print_value-returns-in_ok-begin_object-in-Object-clause-ok g t c =
    let seen = ap view c.in-Object.is ∙ view-Object c.in-Object.members in
    on_ok_weaker c.print_members.result
    (λ w. subst (λ d. WritesValue d (g.W.Tokens.written c.args.out.now) (g.W.Tokens.written c.print_members.new.out)) (sym seen) (object_behind _ _ _ _ c.in_ok-begin_object-in-Object.ensures.ok w)) c.print_members.ensures.ok

pub print_items-loop-item-preserved : goal.print_items-loop-item-preserved
print_items-loop-item-preserved g t c =
    let l = c.loop-item in
    let xs = c.deref-item-items.result.now in
    let x = c.item-item.result in
    let rest = drop (l.item-index + 1) xs in
    let here : drop l.item-index xs ≡ x ∷ rest = drop_more xs l.item-index x (omega arith) ∙ ap (λ y. y ∷ rest) (sym c.item-item.is) in (
      c.print_value.ensures.before ∙ l.invariant.0,
      λ end w. l.invariant.1 end (subst (λ ys. WritesItems (items_view ys) (g.W.Tokens.written l.out) end) (sym here)
          (item_printed (view x) (items_view rest) _ _ end c.in_ok-print_value.ensures.ok w)),
    )

pub print_items-returns-clause-ok : goal.print_items-returns-clause-ok
print_items-returns-clause-ok g t c =
    let l = c.loop-item in
    let xs = c.deref-item-items.result.now in
    let end = g.W.Tokens.written c.end_array.new.self in
    let none : drop l.item-index xs ≡ [] = drop_all l.item-index xs (omega arith) in
    on_ok_weaker c.end_array.result (λ e.
    subst (λ ys. WritesItems (items_view ys) (g.W.Tokens.written c.args.out.now) end) c.deref-item-items.ensures.value
    (l.invariant.1 end (subst (λ ys. WritesItems (items_view ys) (g.W.Tokens.written l.out) end) (sym none) (items_end _ _ e)))) c.end_array.ensures.ok

pub print_members-loop-name-preserved : goal.print_members-loop-name-preserved
print_members-loop-name-preserved g t c =
    let l = c.loop-name in
    let all = c.args.members.now.entries in
    let done = l.invariant.1 in
    let e : Entry = (c.in-Some.name.now, c.in-Some.member.now) in
    let left = c.next.new.self in
    let start = g.W.Tokens.written c.args.out.now in
    let step : l.name-iterator ≡ e ∷ left = c.in-Some.ensures.steps in
    let parts : all ≡ done ++ e ∷ left = l.invariant.2 ∙ ap (λ es. done ++ es) step in
    let reach = subst (λ es. Reaches all done es start (g.W.Tokens.written l.out)) step l.invariant.3 in (
      search rules,
      done ++ e ∷ [],
      parts ∙ sym (append_assoc done (e ∷ []) left),
      reaches_next all done e left start _ _ _ parts c.iter-name-items.ensures.ordered (search rules) c.in_ok-print_value.ensures.ok reach,
    )

pub print_members-returns-clause-ok : goal.print_members-returns-clause-ok
print_members-returns-clause-ok g t c =
    let l = c.loop-name in
    let all = c.args.members.now.entries in
    let done = l.invariant.1 in
    let start = g.W.Tokens.written c.args.out.now in
    let none : l.name-iterator ≡ [] = c.in-None.ensures.steps.0 in
    let is : all ≡ done = l.invariant.2 ∙ ap (λ es. done ++ es) none ∙ append-nil done in
    let reach = subst (λ es. Reaches all done es start (g.W.Tokens.written l.out)) none l.invariant.3 in
    on_ok_weaker c.end_object.result (λ e. reaches_end all done start _ _ is e reach) c.end_object.ensures.ok
