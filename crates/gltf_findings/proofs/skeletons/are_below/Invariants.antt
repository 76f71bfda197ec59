-- The nodes before are below.
use Rattle.std.proofs.Common.{◌≡◌, drop, map}
use Rattle.gltf_base.specs.Indexes.{index_number}
use Rattle.gltf_findings.specs.Rooting.{are_below}
use Rattle.gltf_findings.proofs.skeletons.are_below.Given as goal

abbrev pub invariant-loop-node : goal.invariant-loop-node
invariant-loop-node l = are_below l.subtrees l.top (map index_number l.nodes) ≡ are_below l.subtrees l.top (map index_number (drop l.node-index l.nodes))
