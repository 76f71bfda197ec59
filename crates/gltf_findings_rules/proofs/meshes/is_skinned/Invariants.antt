-- Each primitive before has joints.
use Rattle.std.proofs.Common.{◌≡◌, drop}
use Rattle.gltf_findings_rules.specs.Meshes.{is_skinned}
use Rattle.gltf_findings_rules.proofs.meshes.is_skinned.Given as goal

abbrev pub invariant-loop-primitive : goal.invariant-loop-primitive
invariant-loop-primitive l = is_skinned l.primitives ≡ is_skinned (drop l.primitive-index l.primitives)
