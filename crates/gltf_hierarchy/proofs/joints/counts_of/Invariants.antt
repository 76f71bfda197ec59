use Rattle.gltf_hierarchy.specs.Gathering.{AreCounted}
use Rattle.gltf_hierarchy.proofs.joints.counts_of.Given as goal

abbrev pub invariant-loop-place : goal.invariant-loop-place
invariant-loop-place l = AreCounted l.count l.joints l.counts.items l.place
