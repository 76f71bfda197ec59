use Rattle.std.proofs.Common.{below_more}
use Rattle.std.proofs.lemmas.Bool.{iff_false}
use Rattle.gltf_buffers.proofs.path.relative_fault.Goals as goal

pub loop-i-preserved : goal.loop-i-preserved
loop-i-preserved c =
    below_more _ _ c.loop-i.invariant (record {
      no_zero = c.if-byte-eq0.false;
      no_backslash = c.if-byte-eq92.false;
      no_colon = c.if-byte-eq58.false;
      no_parent = iff_false c.is_parent.ensures c.if-is_parent.false;
    })
