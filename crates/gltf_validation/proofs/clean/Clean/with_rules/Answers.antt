-- Nothing is wrong in a new document.
use Rattle.std.proofs.Common.{codes}
use Rattle.gltf_validation_rules.specs.Context.{rules_of}
use Rattle.gltf_validation.proofs.Setting.{new_clean}
use Rattle.gltf_validation.proofs.clean.Clean.with_rules.Goals as goal

pub invariant_of-result : goal.invariant_of-result
invariant_of-result c = record { is_clean = new_clean (rules_of c.args.rules) c.in_ok-root.root (codes "2.0") c.in_ok-root.ensures }
