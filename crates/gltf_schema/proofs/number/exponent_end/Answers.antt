use Rattle.std.proofs.Common.{◌≡◌, ◌+◌, ◌⊎◌, get_or, arith}
use Rattle.gltf_schema.proofs.Parts.{on_some, signed_power, plain_power}
use Rattle.gltf_schema.proofs.number.exponent_end.Goals as goal

pub returns-then-sign : goal.returns-then-sign
returns-then-sign c =
    let d = c.args.text.now in
    let at = c.args.at in
    let letter : (get_or d at 32 ≡ 101) ⊎ (get_or d at 32 ≡ 69) = grind arith in
    let sign : (get_or d (at + 1) 32 ≡ 45) ⊎ (get_or d (at + 1) 32 ≡ 43) = grind arith in
    on_some c.some_digits_end.result (λ end. signed_power d at end letter sign) c.some_digits_end.ensures.part

pub returns-else-sign : goal.returns-else-sign
returns-else-sign c =
    let d = c.args.text.now in
    let at = c.args.at in
    let letter : (get_or d at 32 ≡ 101) ⊎ (get_or d at 32 ≡ 69) = grind arith in
    on_some c.some_digits_end-else-sign.result (λ end. plain_power d at end letter (λ z. grind arith) (λ z. grind arith)) c.some_digits_end-else-sign.ensures.part
