use Rattle.std.proofs.Common.{◌≡◌, ◌+◌, ◌-◌, length, take, drop, nat_eq, true, sym, ap, ◌∙◌, arith, length-drop, take_all}
use Rattle.std.specs.List.{starts_with}
use Rattle.json.specs.Word.{ends_word}
use Rattle.gltf_schema.proofs.Literals.{word_there}
use Rattle.gltf_schema.proofs.literal.word_end.Goals as goal

pub returns-then-is_delimiter : goal.returns-then-is_delimiter
returns-then-is_delimiter c =
    let d = c.args.text.now in
    let w = c.args.word.now in
    let at = c.args.at in
    let ends : ends_word (drop (at + length w) d) ≡ true = rw (← c.byte_at.ensures.head) (sym c.is_delimiter.ensures.value ∙ c.if-is_delimiter.true) in
    let whole : take (length d - at) (drop at d) ≡ drop at d = take_all (length d - at) (drop at d) (omega (arith, length-drop at d)) in
    (word_there d w at (ap (λ t. starts_with nat_eq t w) (sym whole) ∙ sym c.starts_with.ensures.value ∙ c.if-not-starts_with.false), ends, omega (arith, c.starts_with.ensures.bound c.if-not-starts_with.false, length-drop at d))
