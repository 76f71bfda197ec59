-- Each step leads from node to node.
use Rattle.std.proofs.Common.{◌≡◌, ◌∙◌, ◌+◌, ap, sym, drop, map, option_and_then, option_map, slice_get, Some, arith}
use Rattle.std.proofs.lemmas.List.{drop_all}
use Rattle.gltf_schema.specs.RowPlacing.{owned_step}
use Rattle.gltf_root.specs.Wanted.{shape_wanted}
use Rattle.gltf_root.specs.NodesWithin.{node_at}
use Rattle.gltf_root.proofs.WantedThere.{leads_on}
use Rattle.gltf_root.proofs.wanted.wanted_at.Goals as goal

pub loop-step-preserved : goal.loop-step-preserved
loop-step-preserved c =
    let ns = c.args.nodes.now in
    let xs = c.args.steps.now in
    let i = c.loop-step.step-index in
    c.loop-step.invariant ∙ leads_on ns xs i c.loop-step.at c.step-item.result c.loop-step-test.true c.step-item.is
    ∙ ap (option_and_then (λ j. node_at ns j (map owned_step (drop (i + 1) xs)))) (sym c.next.ensures ∙ c.in-Some.is)

pub returns : goal.returns
returns c =
    let ns = c.args.nodes.now in
    let xs = c.args.steps.now in
    let at = c.loop-step.at in
    c.wanted_of.ensures ∙ sym (ap (λ o. option_map shape_wanted (option_and_then (slice_get ns) o)) (c.loop-step.invariant ∙ ap (λ l. node_at ns at (map owned_step l)) (drop_all c.loop-step.step-index xs c.loop-step-test.false)))
