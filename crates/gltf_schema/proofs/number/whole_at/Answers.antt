use Rattle.std.proofs.Common.{◌≡◌, drop, true, sym, ◌∙◌, arith}
use Rattle.json.specs.Word.{ends_word}
use Rattle.gltf_schema.proofs.Wholes.{whole_token, whole_value}
use Rattle.gltf_schema.proofs.number.whole_at.Goals as goal

pub returns-clause-token : goal.returns-clause-token
returns-clause-token c =
    let d = c.args.text.now in
    let end = c.few_digits-end.result.0 in
    let h = c.few_digits-end.ensures.value in
    let ends : ends_word (drop end d) ≡ true = rw (← c.byte_at.ensures.head) (grind arith) in
    whole_token d c.args.at end (omega (arith, h.0)) h.2 c.few_digits-end.ensures.rest ends (λ zero. grind (arith, zero))

pub returns-clause-value : goal.returns-clause-value
returns-clause-value c =
    let h = c.few_digits-end.ensures.value in
    whole_value c.args.text.now c.args.at c.few_digits-end.result.0 c.few_digits-end.result.1 (omega (arith, h.0)) h
