use Rattle.std.proofs.Common.{◌≡◌, ◌≤◌, length, subst, arith}
use Rattle.std.proofs.lemmas.List.{take_all}
use Rattle.gltf_buffers.specs.Sources.{buffer_of}
use Rattle.gltf_buffers.specs.Buffered.{lent}
use Rattle.gltf_buffers.specs.Limits.{Takes, resolved_bytes}
use Rattle.gltf_buffers.proofs.Taken.{takes_none, takes_next}
use Rattle.gltf_buffers.proofs.Loaded.{AreFirst, none_yet, pushed, are_contents, first_fault}
use Rattle.gltf_buffers.proofs.buffers.Buffers.of.Goals as goal

pub returns-in-Err-clause-fault : goal.returns-in-Err-clause-fault
returns-in-Err-clause-fault g c = first_fault (g.R.Resolve.gives c.args.resolve.now) (g.R.Resolve.gives c.loop-number.resolve) (lent c.args.bin) (g.D.BufferList.listed c.args.document.now) c.loop-number.contents.items c.loop-number.number (buffer_of c.buffer-buffer.result) c.in-Err.fault c.loop-number.invariant.0 c.buffer-buffer.ensures c.in-Err.ensures.fault

pub loop-number-preserved : goal.loop-number-preserved
loop-number-preserved g c = (pushed (g.R.Resolve.gives c.args.resolve.now) (g.R.Resolve.gives c.loop-number.resolve) (g.R.Resolve.gives c.content_of.new.resolve) (lent c.args.bin) (g.D.BufferList.listed c.args.document.now) c.loop-number.contents.items c.push.new.self.items c.loop-number.number (buffer_of c.buffer-buffer.result) c.in-Ok.content c.in_default.ensures.items c.loop-number.invariant.0 c.buffer-buffer.ensures c.in-Ok.ensures.content c.in-Ok.ensures.kept, takes_next (g.D.BufferList.listed c.args.document.now) c.loop-number.number (buffer_of c.buffer-buffer.result) (g.R.Resolve.most c.args.resolve.now) (g.R.Resolve.most c.loop-number.resolve) (g.R.Resolve.most c.content_of.new.resolve) c.buffer-buffer.ensures c.loop-number.invariant.1 c.in-Ok.ensures.taken)

pub returns-clause-contents : goal.returns-clause-contents
returns-clause-contents g c =
    let buffers = g.D.BufferList.listed c.args.document.now in
    let all : c.loop-number.number ≡ length buffers = omega arith in
    are_contents (g.R.Resolve.gives c.args.resolve.now) (g.R.Resolve.gives c.loop-number.resolve) (lent c.args.bin) buffers c.loop-number.contents.items (subst (λ n. AreFirst (g.R.Resolve.gives c.args.resolve.now) (g.R.Resolve.gives c.loop-number.resolve) (lent c.args.bin) buffers c.loop-number.contents.items n) all c.loop-number.invariant.0)

pub loop-number-init : goal.loop-number-init
loop-number-init g c = (none_yet (g.R.Resolve.gives c.args.resolve.now) (lent c.args.bin) (g.D.BufferList.listed c.args.document.now) c.new-contents.result.items c.new-contents.ensures.items, takes_none (g.R.Resolve.most c.args.resolve.now))

pub returns-clause-taken : goal.returns-clause-taken
returns-clause-taken g c =
    let buffers = g.D.BufferList.listed c.args.document.now in
    let small : length buffers ≤ c.loop-number.number = omega arith in
    subst (λ xs. Takes (resolved_bytes xs) (g.R.Resolve.most c.args.resolve.now) (g.R.Resolve.most c.loop-number.resolve)) (take_all c.loop-number.number buffers small) c.loop-number.invariant.1
