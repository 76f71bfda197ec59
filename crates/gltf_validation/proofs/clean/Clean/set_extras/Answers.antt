-- Nothing is wrong in extras.
use Rattle.gltf_validation_rules.specs.Context.{rules_of}
use Rattle.gltf_validation.proofs.Setting.{extras_set}
use Rattle.gltf_validation.proofs.clean.Clean.set_extras.Goals as goal

pub invariant_of-self : goal.invariant_of-self
invariant_of-self c =
    let held = c.args.self.now in
    record { is_clean = extras_set (rules_of held.rules) held.root c.args.extras held.is_clean }
