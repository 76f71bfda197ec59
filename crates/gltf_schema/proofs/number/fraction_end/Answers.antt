use Rattle.std.proofs.Common.{◌≡◌, get_or, arith}
use Rattle.gltf_schema.proofs.Parts.{on_some, fraction_part}
use Rattle.gltf_schema.proofs.number.fraction_end.Goals as goal

pub returns-then-byte_at-eq46 : goal.returns-then-byte_at-eq46
returns-then-byte_at-eq46 c =
    let point : get_or c.args.text.now c.args.at 32 ≡ 46 = omega (arith, c.byte_at.ensures.value) in
    on_some c.some_digits_end.result (λ end. fraction_part c.args.text.now c.args.at end point) c.some_digits_end.ensures.part
