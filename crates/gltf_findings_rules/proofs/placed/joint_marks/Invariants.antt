-- The skins that are left mark all joints.
use Rattle.std.proofs.Common.{◌≡◌, drop, replicate, false}
use Rattle.gltf_findings_rules.specs.Placed.{joint_marks}
use Rattle.gltf_findings_rules.proofs.placed.joint_marks.Given as goal

abbrev pub invariant-loop-skin : goal.invariant-loop-skin
invariant-loop-skin l = joint_marks (drop l.skin-index l.skins) l.marks.items ≡ joint_marks l.skins (replicate l.count false)
