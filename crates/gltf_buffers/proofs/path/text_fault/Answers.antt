use Rattle.std.proofs.Common.{below_more, inl, inr, arith}
use Rattle.gltf_buffers.proofs.path.text_fault.Goals as goal
use Rattle.gltf_buffers.proofs.path.text_fault.Goals.{else-byte-eq37-via-then-byte-eq37+else-not-is_escape, else-byte-eq37-via-else-byte-eq37}

pub loop-i-preserved : goal.loop-i-preserved
loop-i-preserved c =
    below_more _ _ c.loop-i.invariant (record {
      no_parameter = λ p. elim p [ inl h ↦ c.if-byte-eq63.false h | inr h ↦ c.if-byte-eq35.false h ];
      escape = λ is. elim c.else-byte-eq37.branch [
        | else-byte-eq37-via-then-byte-eq37+else-not-is_escape w ↦ w.is_escape.ensures.0 (grind arith)
        | else-byte-eq37-via-else-byte-eq37 w ↦ absurd (w.if-byte-eq37.false is)
      ];
    })
