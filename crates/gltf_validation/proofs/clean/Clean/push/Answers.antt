-- What a push leaves has no report.
use Rattle.gltf_validation_rules.specs.Context.{rules_of}
use Rattle.gltf_root.specs.Root.{root_tree}
use Rattle.gltf_validation.proofs.Pushing.{is_pushed, stays_clean}
use Rattle.gltf_validation.proofs.clean.Clean.push.Goals as goal

pub invariant_of-self : goal.invariant_of-self
invariant_of-self g c =
    let held = c.args.self.now in
    let made = c.push_checked.ensures in
    record { is_clean = stays_clean (rules_of held.rules) g.T.Listed.list c.args.item (g.T.RootItem.tree c.args.item) held.root c.push_checked.result (root_tree c.push_checked.new.root) held.is_clean made.pushed made.unchanged }

pub returns-clause-pushed : goal.returns-clause-pushed
returns-clause-pushed g c =
    let held = c.args.self.now in
    let made = c.push_checked.ensures in
    is_pushed (rules_of held.rules) g.T.Listed.list c.args.item (g.T.RootItem.tree c.args.item) (root_tree held.root) c.push_checked.result (root_tree c.push_checked.new.root) made.pushed made.refused made.unchanged
