use Rattle.gltf_hierarchy.specs.Gathering.{IsGathering}
use Rattle.gltf_hierarchy.proofs.joints.root_over.Given as goal

abbrev pub invariant-loop-place : goal.invariant-loop-place
invariant-loop-place l = IsGathering l.parents l.order l.joints l.counts.items l.place
