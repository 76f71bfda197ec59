-- A scene that is listed is no fault.
use Rattle.std.proofs.Common.{refl}
use Rattle.gltf_validation_rules.specs.Context.{rules_of}
use Rattle.gltf_validation.proofs.Setting.{scene_set}
use Rattle.gltf_validation.proofs.clean.Clean.set_scene.Goals as goal

pub invariant_of-self : goal.invariant_of-self
invariant_of-self c =
    let held = c.args.self.now in
    record { is_clean = scene_set (rules_of held.rules) held.root (record held.root { scene = c.args.scene }) refl (c.lists.ensures.0 c.if-not-lists.false) held.is_clean }
