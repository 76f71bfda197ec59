-- The one frame is the value's.
use Rattle.std.proofs.Common.{◌∙◌, arith, ap, map, length}
use Rattle.gltf_base.specs.Steps.{step_of, steps_of}
use Rattle.gltf_root.specs.Root.{root_tree}
use Rattle.gltf_validation_rules.specs.Context.{rules_of, under}
use Rattle.gltf_validation_rules.specs.Reports.{reports_by_rules}
use Rattle.gltf_validation_walk.proofs.Begun.{begun_fits, begun_to_come}
use Rattle.gltf_validation_walk.proofs.walk.ValueWalk.new.Goals as goal

pub invariant_of-result : goal.invariant_of-result
invariant_of-result g c =
    let low = begun_fits g.T.Visitable.kind (g.T.Visitable.tree c.args.value.now) (under (rules_of c.args.rules) (root_tree c.args.root.now)) c.value_ref-start.result _ c.begun_in.ensures c.value_ref-start.ensures in
    record { reach_is_bounded = omega (arith, low, c.requires); frames_have_steps = omega (arith, ap length c.begun_in.ensures) }

pub returns-clause-reports : goal.returns-clause-reports
returns-clause-reports g c =
    let kind = g.T.Visitable.kind in
    let t = g.T.Visitable.tree c.args.value.now in
    begun_to_come kind t (under (rules_of c.args.rules) (root_tree c.args.root.now)) c.value_ref-start.result _ (steps_of c.copied.result) c.begun_in.ensures c.value_ref-start.ensures
    ∙ ap (λ steps. reports_by_rules (rules_of c.args.rules) kind t (root_tree c.args.root.now) (map step_of steps)) c.copied.ensures

pub returns-clause-depth : goal.returns-clause-depth
returns-clause-depth g c =
    begun_fits g.T.Visitable.kind (g.T.Visitable.tree c.args.value.now) (under (rules_of c.args.rules) (root_tree c.args.root.now)) c.value_ref-start.result _ c.begun_in.ensures c.value_ref-start.ensures
