-- Each report that comes is one fewer to come.
use Rattle.std.proofs.Common.{length}
use Rattle.gltf_validation_walk.specs.ToCome.{to_come}
use Rattle.gltf_bench.proofs.walk_to_end.Given as goal

abbrev pub decreases-loop-error : goal.decreases-loop-error
decreases-loop-error l = length (to_come l.walk)
