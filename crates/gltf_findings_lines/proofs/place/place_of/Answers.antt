-- Each part leads to a child, or the last value on the way is the place.
use Rattle.std.proofs.Common.{◌+◌, map, drop, sym, ap, ◌∙◌, subst, arith}
use Rattle.std.specs.Option.{option_map_or}
use Rattle.std.proofs.lemmas.List.{drop-map, drop_all}
use Rattle.gltf_findings_lines.specs.Places.{child_at, place_at}
use Rattle.gltf_findings_lines.specs.Children.{IsChild}
use Rattle.gltf_findings_lines.proofs.Leading.{at_node, next_part}
use Rattle.gltf_findings_lines.proofs.place.place_of.Goals as goal

pub loop-i-init : goal.loop-i-init
loop-i-init c = record {
  kept = c.requires.1;
  reached = λ j is.
      let parts = c.in_ok-parts.parts.items in
      (j, is, ap (λ ps. place_at (drop 1 ps) 0 j) (sym c.in_ok-parts.ensures) ∙ ap (λ ps. place_at ps 0 j) (drop-map (λ x. x.now) 1 parts));
}

pub loop-i-preserved : goal.loop-i-preserved
loop-i-preserved c = record {
  kept = c.in_ok-child.ensures.kept;
  reached = λ j is.
      let before = c.loop-i.invariant.reached j is in
      let parts = c.in_ok-parts.parts.items in
      let turn = next_part parts c.loop-i.i c.loop-i.at before.0 c.index.result.now (omega arith) c.index.ensures in
      let due = child_at c.loop-i.at c.index.result.now.now before.0 in
      let child = subst (λ o. IsChild c.args.nodes.now o due) c.in-Some.is (c.in_ok-child.ensures.child before.0 before.1) in
      (child.0, child.2, before.2 ∙ turn ∙ ap (λ o. option_map_or (λ x. place_at (map (λ p. p.now) (drop (c.loop-i.i + 1) parts)) x.0 x.1) o c.loop-i.at) child.1);
}

pub returns-in-None-clause-place : goal.returns-in-None-clause-place
returns-in-None-clause-place c = λ j is.
    let before = c.loop-i.invariant.reached j is in
    let parts = c.in_ok-parts.parts.items in
    let turn = next_part parts c.loop-i.i c.loop-i.at before.0 c.index.result.now (omega arith) c.index.ensures in
    let due = child_at c.loop-i.at c.index.result.now.now before.0 in
    let child = subst (λ o. IsChild c.args.nodes.now o due) c.in-None.is (c.in_ok-child.ensures.child before.0 before.1) in (
      sym (before.2 ∙ turn ∙ ap (λ o. option_map_or (λ x. place_at (map (λ p. p.now) (drop (c.loop-i.i + 1) parts)) x.0 x.1) o c.loop-i.at) child),
      at_node c.args.nodes.now c.loop-i.at before.0 before.1,
    )

pub returns-clause-place : goal.returns-clause-place
returns-clause-place c = λ j is.
    let before = c.loop-i.invariant.reached j is in
    let parts = c.in_ok-parts.parts.items in (
      sym (before.2 ∙ ap (λ ps. place_at (map (λ p. p.now) ps) c.loop-i.at before.0) (drop_all c.loop-i.i parts (omega arith))),
      at_node c.args.nodes.now c.loop-i.at before.0 before.1,
    )
