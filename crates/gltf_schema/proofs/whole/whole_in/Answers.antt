use Rattle.std.proofs.Common.{◌≡◌, ◌+◌, ◌-◌, ◌*◌, ◌<◌, ◌≤◌, length, get_or, refl, sym, ap, ◌∙◌, subst, arith}
use Rattle.serde_json.specs.Read.{number_of}
use Rattle.gltf_schema.proofs.Digits.{Reads, below, one_more, written}
use Rattle.gltf_schema.proofs.whole.whole_in.Goals as goal

pub overflow_mul-value : goal.overflow_mul-value
overflow_mul-value c =
    let s = c.as_bytes-bytes.result.now in
    let l = c.loop-i in
    omega (arith, below s l.i 18 l.value l.invariant (omega (arith, c.loop-i-test.true, c.if-n-gt-MOST_DIGITS.false)))

pub overflow_add-value : goal.overflow_add-value
overflow_add-value c =
    let s = c.as_bytes-bytes.result.now in
    let l = c.loop-i in
    omega (arith, below s l.i 18 l.value l.invariant (omega (arith, c.loop-i-test.true, c.if-n-gt-MOST_DIGITS.false)), c.from.ensures)

pub loop-i-preserved : goal.loop-i-preserved
loop-i-preserved c =
    let s = c.as_bytes-bytes.result.now in
    let l = c.loop-i in
    let byte = get_or s l.i 0 in
    let less : l.i < length s = omega (arith, c.loop-i-test.true) in
    let digit : c.from.result ≡ byte - 48 = grind arith in
    subst (λ d. Reads s (l.i + 1) (l.value * 10 + d)) (sym digit) (one_more s l.i l.value byte l.invariant less refl (grind arith) (grind arith))

pub returns : goal.returns
returns c =
    let s = c.as_bytes-bytes.result.now in
    let l = c.loop-i in
    let over : l.i ≡ length s = omega (arith, c.loop-i-test.false, l.invariant.0) in
    let some : 0 < length s = omega (arith, c.if-n-eq0.false) in
    let few : length s ≤ 19 = omega (arith, c.if-n-gt-MOST_DIGITS.false) in
    ap number_of (sym c.as_bytes-bytes.ensures.value) ∙ written s l.value some few (subst (λ i. Reads s i l.value) over l.invariant)
