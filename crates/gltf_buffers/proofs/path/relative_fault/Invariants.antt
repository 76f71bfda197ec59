use Rattle.std.proofs.Common.{ℕ, ◌<◌}
use Rattle.gltf_buffers.specs.Paths.{IsPlain}
use Rattle.gltf_buffers.proofs.path.relative_fault.Given as goal

abbrev pub invariant-loop-i : goal.invariant-loop-i
invariant-loop-i l = (k : ℕ) → k < l.i → IsPlain l.path k
