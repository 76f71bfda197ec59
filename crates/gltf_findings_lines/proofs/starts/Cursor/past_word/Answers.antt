-- A byte that ends no word begins no token.
use Rattle.std.proofs.Common.{◌∙◌, sym, arith}
use Rattle.gltf_findings_lines.proofs.Lexing.{word_goes_on}
use Rattle.gltf_findings_lines.proofs.starts.Cursor.past_word.Goals as goal

pub loop-cursor-preserved : goal.loop-cursor-preserved
loop-cursor-preserved c =
    let known = c.loop-cursor.invariant in
    let step = word_goes_on c.args.bytes.now c.loop-cursor.cursor.offset c.past-cursor.result.offset c.loop-cursor-test.true c.past-cursor.ensures.offset known.mode (sym c.ends_word.ensures ∙ c.if-not-ends_word.true) in
    record { cursor = c.past-cursor.ensures.cursor; further = omega arith; count = step.0 ∙ known.count; mode = step.1 }
