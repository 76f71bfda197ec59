use Rattle.std.proofs.Common.{◌≡◌, get_or, arith}
use Rattle.gltf_schema.proofs.Parts.{is_within, byte_is}
use Rattle.gltf_schema.proofs.Quotes.{text_at}
use Rattle.gltf_schema.proofs.quoted.plain_text_end.Goals as goal

pub returns-then-byte_at-eq34-clause-token : goal.returns-then-byte_at-eq34-clause-token
returns-then-byte_at-eq34-clause-token c =
    let d = c.args.text.now in
    let end = c.plain_end-end.result in
    let is : get_or d end 32 ≡ 34 = omega (arith, c.byte_at.ensures.value) in
    text_at d c.args.at end c.requires.0 c.requires.1 c.plain_end-end.ensures.value (is_within d end 34 is (λ z. omega arith)) (byte_is d end 34 is (λ z. omega arith))

pub returns-then-byte_at-eq34-clause-quote : goal.returns-then-byte_at-eq34-clause-quote
returns-then-byte_at-eq34-clause-quote c =
    let d = c.args.text.now in
    let end = c.plain_end-end.result in
    let is : get_or d end 32 ≡ 34 = omega (arith, c.byte_at.ensures.value) in
    (omega (arith, c.plain_end-end.ensures.value), is_within d end 34 is (λ z. omega arith), byte_is d end 34 is (λ z. omega arith))
