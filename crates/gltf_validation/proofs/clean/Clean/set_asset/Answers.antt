-- Nothing is wrong in an asset.
use Rattle.gltf_validation_rules.specs.Context.{rules_of}
use Rattle.gltf_validation.proofs.Setting.{asset_set}
use Rattle.gltf_validation.proofs.clean.Clean.set_asset.Goals as goal

pub invariant_of-self : goal.invariant_of-self
invariant_of-self c =
    let held = c.args.self.now in
    record { is_clean = asset_set (rules_of held.rules) held.root c.args.asset held.is_clean }
