-- What is taken back leaves no report.
use Rattle.gltf_validation_rules.specs.Context.{rules_of}
use Rattle.gltf_root.specs.Root.{root_tree}
use Rattle.gltf_validation.proofs.TakingBack.{still_clean}
use Rattle.gltf_validation.proofs.clean.Clean.undo_push.Goals as goal

pub invariant_of-self : goal.invariant_of-self
invariant_of-self g c =
    let held = c.args.self.now in
    record { is_clean = still_clean (rules_of held.rules) g.T.Listed.list (g.T.TopLevel.held held.root).items (root_tree held.root) c.undo_clean.result (root_tree c.undo_clean.new.root) held.is_clean c.undo_clean.ensures }
