-- The chunks that are left are as those of all bytes.
use Rattle.std.proofs.Common.{◌≡◌, length}
use Rattle.gltf_buffers.specs.Reading.{others_of}
use Rattle.gltf_buffers.proofs.glb.check_others.Given as goal

abbrev pub decreases-loop-rest : goal.decreases-loop-rest
decreases-loop-rest l = length l.rest

abbrev pub invariant-loop-rest : goal.invariant-loop-rest
invariant-loop-rest l = others_of l.rest ≡ others_of l.bytes
