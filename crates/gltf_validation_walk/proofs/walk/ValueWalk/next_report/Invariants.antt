use Rattle.std.proofs.Common.{◌≡◌, ◌≤◌}
use Rattle.gltf_validation_walk.specs.Rest.{checklists_left}
use Rattle.gltf_validation_walk.proofs.Stacks.{weight_of}
use Rattle.gltf_validation_walk.specs.ToCome.{base_count, context_in, depth_in, to_come_in}
use Rattle.gltf_validation_walk.proofs.walk.ValueWalk.next_report.Given as goal

abbrev pub decreases-loop-self : goal.decreases-loop-self
decreases-loop-self l = weight_of (checklists_left (context_in l.self) l.self.frames.items)

abbrev pub invariant-loop-self : goal.invariant-loop-self
invariant-loop-self l = record {
  same : to_come_in l.fn.self ≡ to_come_in l.self;
  base : base_count l.self ≤ base_count l.fn.self;
  depth : depth_in l.self ≤ depth_in l.fn.self;
}
