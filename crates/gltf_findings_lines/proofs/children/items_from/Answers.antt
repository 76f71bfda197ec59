-- One item more is behind those so far, and at the end none is left.
use Rattle.std.proofs.Common.{◌++◌, [], sym, subst, append-nil}
use Rattle.gltf_findings_lines.specs.Children.{AreItems}
use Rattle.gltf_findings_lines.proofs.Walking.{item_turn}
use Rattle.gltf_findings_lines.proofs.children.items_from.Goals as goal

pub loop-end-init : goal.loop-end-init
loop-end-init c = λ js given. (js, given, λ ss are. subst (λ l. AreItems c.args.nodes.now c.args.first js (l ++ ss)) (sym c.new-starts.ensures.items) are)

pub loop-end-preserved : goal.loop-end-preserved
loop-end-preserved c = λ js given.
    let before = c.loop-end.invariant js given in
    let turn = c.in-Some.ensures.value before.0 before.1 in
    let nodes = c.args.nodes.now in (
      turn.1,
      turn.5,
      λ ss are. subst (λ l. AreItems nodes c.args.first js (l ++ ss)) (sym c.in_ok-push.ensures.items)
          (item_turn nodes c.args.first c.loop-end.at c.in-Some.end js before.0 turn.1 turn.0 c.loop-end.starts.items turn.2 turn.3 turn.4 before.2 ss are),
    )

pub returns : goal.returns
returns c = λ js given.
    let before = c.loop-end.invariant js given in
    let over = c.in_default.ensures.value before.0 before.1 in
    let nodes = c.args.nodes.now in
    subst (AreItems nodes c.args.first js) (append-nil c.loop-end.starts.items) (before.2 [] (subst (λ r. AreItems nodes c.loop-end.at r []) (sym over) tt))
