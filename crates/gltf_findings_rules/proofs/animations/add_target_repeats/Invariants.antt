-- The channels that are left give all findings.
use Rattle.std.proofs.Common.{◌≡◌, ◌++◌, [], drop}
use Rattle.gltf_findings_rules.specs.Animations.{target_findings}
use Rattle.gltf_findings_rules.proofs.animations.add_target_repeats.Given as goal

abbrev pub invariant-loop-number : goal.invariant-loop-number
invariant-loop-number l = l.to.items ++ target_findings l.animation l.before.keys l.number (drop l.number l.channels) ≡ l.fn.to.items ++ target_findings l.animation [] 0 l.channels
