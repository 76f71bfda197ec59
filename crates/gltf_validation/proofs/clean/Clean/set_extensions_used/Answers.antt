-- Nothing is wrong in names of extensions that a document uses.
use Rattle.gltf_validation_rules.specs.Context.{rules_of}
use Rattle.gltf_validation.proofs.Setting.{used_set}
use Rattle.gltf_validation.proofs.clean.Clean.set_extensions_used.Goals as goal

pub invariant_of-self : goal.invariant_of-self
invariant_of-self c =
    let held = c.args.self.now in
    record { is_clean = used_set (rules_of held.rules) held.root c.args.names held.is_clean }
