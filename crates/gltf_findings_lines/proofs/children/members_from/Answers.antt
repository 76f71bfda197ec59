-- One member more takes the place of an earlier one of its name, and at the end none is left.
use Rattle.std.proofs.Common.{◌≡◌, ◌+◌, ◌∙◌, length, cond, Some, None, string_bytes, bytes_eq, refl, sym, ap, subst, rules}
use Rattle.std.specs.BTreeMap.{get_by_text}
use Rattle.std.proofs.lemmas.Map.Text.{btree_map_updates_text}
use Rattle.json.specs.Tree.{json_tokens}
use Rattle.gltf_base.specs.Pointers.{escaped}
use Rattle.gltf_findings_lines.specs.Places.{member_at}
use Rattle.gltf_findings_lines.proofs.Walking.{IsLeft, member_found, member_turn}
use Rattle.gltf_findings_lines.proofs.children.members_from.Goals as goal

pub loop-key-init : goal.loop-key-init
loop-key-init c = λ ms given. (
  ms,
  given,
  λ part.
      let none : get_by_text c.new-names.result part ≡ None = search rules in
      let due = member_at c.args.first part ms in
      subst (IsLeft c.args.nodes.now due due) (sym none) refl,
)

pub loop-key-preserved : goal.loop-key-preserved
loop-key-preserved c = λ ms given.
    let before = c.loop-key.invariant ms given in
    let turn = c.in-Some.ensures.value before.0 before.1 in
    let nodes = c.args.nodes.now in
    let at = c.loop-key.at in
    let key = c.in_ok-part_of.field-0 in (
      turn.1,
      turn.5,
      λ part.
          let due = member_at c.args.first part ms in
          let left = member_at (at + 1 + length (json_tokens turn.0)) part turn.1 in
          let prior = subst (λ r. IsLeft nodes due (member_at at part r) (get_by_text c.loop-key.names part)) turn.2 (before.2 part) in
          let next = member_turn nodes due (bytes_eq (escaped c.in-Some.key.now) part) left (at + 1) turn.0 (get_by_text c.loop-key.names part) turn.3 prior in
          let known = btree_map_updates_text (string_bytes key) c.loop-key.names c.insert.new.self (Some (at + 1)) c.in_ok-insert.ensures.updates part in
          let named = ap (λ s. cond (bytes_eq s part) (Some (at + 1)) (get_by_text c.loop-key.names part)) c.in_ok-part_of.ensures in
          subst (IsLeft nodes due (member_at c.in-Some.end part turn.1)) (sym (known ∙ named))
          (subst (λ n. IsLeft nodes due (member_at n part turn.1) (cond (bytes_eq (escaped c.in-Some.key.now) part) (Some (at + 1)) (get_by_text c.loop-key.names part))) (sym turn.4) next),
    )

pub returns : goal.returns
returns c = λ ms given part.
    let before = c.loop-key.invariant ms given in
    let over = c.in_default.ensures.value before.0 before.1 in
    let nodes = c.args.nodes.now in
    let due = member_at c.args.first part ms in
    member_found nodes due (get_by_text c.loop-key.names part) (subst (λ r. IsLeft nodes due (member_at c.loop-key.at part r) (get_by_text c.loop-key.names part)) over (before.2 part))
