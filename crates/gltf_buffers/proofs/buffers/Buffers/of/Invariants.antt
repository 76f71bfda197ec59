use Rattle.std.proofs.Common.{take}
use Rattle.gltf_buffers.specs.Buffered.{lent}
use Rattle.gltf_buffers.specs.Limits.{Takes, resolved_bytes}
use Rattle.gltf_buffers.proofs.Loaded.{AreFirst}
use Rattle.gltf_buffers.proofs.buffers.Buffers.of.Given as goal

abbrev pub invariant-loop-number : goal.invariant-loop-number
invariant-loop-number g l = AreFirst (g.R.Resolve.gives l.fn.resolve) (g.R.Resolve.gives l.resolve) (lent l.bin) (g.D.BufferList.listed l.document) l.contents.items l.number × Takes (resolved_bytes (take l.number (g.D.BufferList.listed l.document))) (g.R.Resolve.most l.fn.resolve) (g.R.Resolve.most l.resolve)
