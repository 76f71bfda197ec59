-- The nodes that are left mark all children.
use Rattle.std.proofs.Common.{◌≡◌, drop, replicate, length, false}
use Rattle.gltf_findings_rules.specs.Placed.{child_marks}
use Rattle.gltf_findings_rules.proofs.placed.child_marks.Given as goal

abbrev pub invariant-loop-node : goal.invariant-loop-node
invariant-loop-node l = child_marks (drop l.node-index l.nodes) l.marks.items ≡ child_marks l.nodes (replicate (length l.nodes) false)
