use Rattle.std.proofs.Common.{sym, ◌∙◌, arith}
use Rattle.gltf_schema.proofs.Lexing.{past_blank}
use Rattle.gltf_schema.proofs.bytes.past_blanks.Goals as goal

pub loop-next-preserved : goal.loop-next-preserved
loop-next-preserved c =
    let blank = sym c.is_blank.ensures ∙ c.if-is_blank.true in
    (past_blank c.args.text.now c.loop-next.next (omega arith) blank ∙ c.loop-next.invariant.0, omega arith)
