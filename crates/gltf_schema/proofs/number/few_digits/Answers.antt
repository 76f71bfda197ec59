use Rattle.std.proofs.Common.{◌≡◌, ◌+◌, ◌-◌, ◌*◌, ◌<◌, true, length, get_or, refl, sym, subst, ◌∙◌, arith}
use Rattle.std.specs.Char.{is_ascii_digit}
use Rattle.std.proofs.lemmas.List.Sums.{prefix_len-drop_yes}
use Rattle.gltf_schema.specs.NumberParts.{HasDigits}
use Rattle.gltf_schema.proofs.Wholes.{small_so_far, digit_more}
use Rattle.gltf_schema.proofs.number.few_digits.Goals as goal

pub overflow_mul-value : goal.overflow_mul-value
overflow_mul-value c =
    let l = c.loop-end in
    omega (arith, small_so_far c.args.text.now c.args.at l.end l.value l.invariant.0 (omega (arith, c.if-end-at-lt-MOST_DIGITS.true, l.invariant.0.0)))

pub overflow_add-value : goal.overflow_add-value
overflow_add-value c =
    let l = c.loop-end in
    omega (arith, small_so_far c.args.text.now c.args.at l.end l.value l.invariant.0 (omega (arith, c.if-end-at-lt-MOST_DIGITS.true, l.invariant.0.0)), c.from.ensures, c.if-is_ascii_digit.true, c.is_ascii_digit.ensures.bound)

pub loop-end-preserved : goal.loop-end-preserved
loop-end-preserved c =
    let d = c.args.text.now in
    let at = c.args.at in
    let l = c.loop-end in
    let byte = get_or d l.end 0 in
    let less : l.end < length d = omega (arith, c.loop-end-test.true) in
    let digit : c.from.result ≡ byte - 48 = grind arith in
    let few : l.end < at + 19 = omega (arith, c.if-end-at-lt-MOST_DIGITS.true, l.invariant.0.0) in
    let is : is_ascii_digit byte ≡ true = grind arith in (
      subst (λ x. HasDigits d at (l.end + 1) (l.value * 10 + x)) (sym digit) (digit_more d at l.end l.value byte l.invariant.0 less few refl (grind arith) (grind arith)),
      l.invariant.1 ∙ omega (arith, prefix_len-drop_yes is_ascii_digit d l.end 0 less is),
    )
