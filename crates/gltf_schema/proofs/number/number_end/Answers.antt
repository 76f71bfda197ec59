use Rattle.std.proofs.Common.{◌≡◌, drop, arith, true, sym, ◌∙◌}
use Rattle.json.specs.Word.{ends_word}
use Rattle.gltf_schema.proofs.Parts.{number_at, begins_ascii, ends_ascii}
use Rattle.gltf_schema.proofs.number.number_end.Goals as goal

pub returns-then-is_delimiter-clause-token : goal.returns-then-is_delimiter-clause-token
returns-then-is_delimiter-clause-token c =
    let d = c.args.text.now in
    let end = c.in_ok-end.end in
    let ends : ends_word (drop end d) ≡ true = rw (← c.byte_at.ensures.head) (sym c.is_delimiter.ensures.value ∙ c.if-is_delimiter.true) in
    let m = c.minus_end in
    number_at d c.args.at m.result c.in_ok-point.point c.in_ok-power.power end c.requires m.ensures.rest m.ensures.runs m.ensures.within.0 m.ensures.minus c.in_ok-point.ensures.digit c.in_ok-point.ensures.part c.in_ok-power.ensures c.in_ok-end.ensures ends

pub returns-then-is_delimiter-clause-ascii : goal.returns-then-is_delimiter-clause-ascii
returns-then-is_delimiter-clause-ascii c =
    let d = c.args.text.now in
    let end = c.in_ok-end.end in
    (begins_ascii d c.args.at c.minus_end.result c.minus_end.ensures.minus c.in_ok-point.ensures.digit, ends_ascii d end (omega (arith, c.is_delimiter.ensures.ascii c.if-is_delimiter.true, c.byte_at.ensures.value)))
