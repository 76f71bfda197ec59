-- No byte of a string begins a token, and the one behind a backslash ends no string.
use Rattle.std.proofs.Common.{◌≤◌, length, ◌∙◌, arith}
use Rattle.gltf_findings_lines.proofs.Lexing.{string_goes_on, string_ends, escape_begins, escape_ends}
use Rattle.gltf_findings_lines.proofs.starts.Cursor.past_string.Goals as goal
use Rattle.gltf_findings_lines.proofs.starts.Cursor.past_string.Goals.{else-byte-eq92-via-then-byte-eq92+else-cursor-bytes, else-byte-eq92-via-else-byte-eq92}

pub returns-then-byte-eq34-clause-count : goal.returns-then-byte-eq34-clause-count
returns-then-byte-eq34-clause-count c =
    let known = c.loop-cursor.invariant in
    let step = string_ends c.args.bytes.now c.loop-cursor.cursor.offset c.past-cursor.result.offset c.loop-cursor-test.true c.past-cursor.ensures.offset (known.mode c.loop-cursor-test.true) c.if-byte-eq34.true in
    step.0 ∙ known.count

pub loop-cursor-preserved-then-cursor-bytes : goal.loop-cursor-preserved-then-cursor-bytes
loop-cursor-preserved-then-cursor-bytes c =
    let bytes = c.args.bytes.now in
    let known = c.loop-cursor.invariant in
    let first = escape_begins bytes c.loop-cursor.cursor.offset c.past-cursor.result.offset c.loop-cursor-test.true c.past-cursor.ensures.offset (known.mode c.loop-cursor-test.true) c.if-byte-eq92.true in
    let second = escape_ends bytes c.past-cursor.result.offset c.past-cursor-then-cursor-bytes.result.offset c.if-cursor-bytes.true c.past-cursor-then-cursor-bytes.ensures.offset first.1 in
    record { cursor = c.past-cursor-then-cursor-bytes.ensures.cursor; further = omega arith; count = second.0 ∙ first.0 ∙ known.count; mode = λ _. second.1 }

pub loop-cursor-preserved : goal.loop-cursor-preserved
loop-cursor-preserved c =
    let bytes = c.args.bytes.now in
    let known = c.loop-cursor.invariant in
    let mode = known.mode c.loop-cursor-test.true in
    elim c.else-byte-eq92.branch [
      | else-byte-eq92-via-then-byte-eq92+else-cursor-bytes w ↦
          (let at_end : length bytes ≤ c.past-cursor.result.offset = omega arith in
          let step = escape_begins bytes c.loop-cursor.cursor.offset c.past-cursor.result.offset c.loop-cursor-test.true c.past-cursor.ensures.offset mode w.if-byte-eq92.true in
          record { cursor = c.past-cursor.ensures.cursor; further = omega arith; count = step.0 ∙ known.count; mode = λ lt. absurd (omega arith) })
      | else-byte-eq92-via-else-byte-eq92 w ↦
          (let step = string_goes_on bytes c.loop-cursor.cursor.offset c.past-cursor.result.offset c.loop-cursor-test.true c.past-cursor.ensures.offset mode c.if-byte-eq34.false w.if-byte-eq92.false in
          record { cursor = c.past-cursor.ensures.cursor; further = omega arith; count = step.0 ∙ known.count; mode = λ _. step.1 })
    ]
