-- The indexes before are among the nodes.
use Rattle.std.proofs.Common.{◌≡◌, drop, map}
use Rattle.gltf_base.specs.Indexes.{index_number}
use Rattle.gltf_findings.specs.Rooting.{are_among}
use Rattle.gltf_findings.proofs.skeletons.are_among.Given as goal

abbrev pub invariant-loop-index : goal.invariant-loop-index
invariant-loop-index l = are_among l.count (map index_number l.indexes) ≡ are_among l.count (map index_number (drop l.index-index l.indexes))
