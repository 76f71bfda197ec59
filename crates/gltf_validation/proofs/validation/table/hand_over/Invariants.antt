-- The sink took the reports before those that are left.
use Rattle.std.proofs.Common.{◌≤◌, length}
use Rattle.gltf_validation_walk.specs.ToCome.{base_count, depth_in, to_come_in}
use Rattle.gltf_validation.proofs.Handing.{Handing}
use Rattle.gltf_validation.proofs.validation.table.hand_over.Given as goal

abbrev pub invariant-loop-error : goal.invariant-loop-error
invariant-loop-error g l = record {
  handing : Handing g.S.Sink.next (g.S.Sink.state l.fn.sink) (to_come_in l.fn.walk) (to_come_in l.walk) (g.S.Sink.state l.sink);
  base : base_count l.walk ≤ base_count l.fn.walk;
  depth : depth_in l.walk ≤ depth_in l.fn.walk;
}

abbrev pub decreases-loop-error : goal.decreases-loop-error
decreases-loop-error g l = length (to_come_in l.walk)
