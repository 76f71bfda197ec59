use Rattle.std.proofs.Common.{◌≡◌, ◌+◌, ◌<◌, ◌≤◌, length, false, get_or, sym, ap, ◌∙◌, arith}
use Rattle.json.specs.Lex.{class}
use Rattle.json.specs.Json.{after_end_array}
use Rattle.json.specs.Align.{is_blank}
use Rattle.gltf_schema.specs.Lexemes.{lexemes_at, tokens_at}
use Rattle.gltf_schema.proofs.NextTokens.{array_over, array_goes_on, behind_value, same_tokens}
use Rattle.gltf_schema.proofs.Firsts.{no_end_behind_comma}
use Rattle.gltf_schema.proofs.reader.Reader.take_end_array.Goals as goal

pub returns-then-byte_at-eq93 : goal.returns-then-byte_at-eq93
returns-then-byte_at-eq93 c =
    let a = c.self.inside in
    let d = a.text.now in
    let at = c.next_at-at.result in
    let same = c.as_bytes-bytes.ensures.value in
    let moved : lexemes_at d at ≡ lexemes_at d a.at = rw (← same) c.next_at-at.ensures.same in
    let value : c.byte_at.result ≡ get_or d at 32 = rw (← same) c.byte_at.ensures.value in
    ap after_end_array (sym c.self.view_is) ∙ array_over a.before d a.at at (sym c.may_end.ensures ∙ c.if-not-may_end.false) moved (omega arith)

pub returns-then-may_begin : goal.returns-then-may_begin
returns-then-may_begin c =
    let a = c.self.inside in
    let d = a.text.now in
    let at = c.next_at-at.result in
    let same = c.as_bytes-bytes.ensures.value in
    let moved : lexemes_at d at ≡ lexemes_at d a.at = rw (← same) c.next_at-at.ensures.same in
    let within : at ≤ length d = rw (← same) c.next_at-at.ensures.within in
    let solid : at < length d → is_blank (class (get_or d at 32)) ≡ false = rw (← same) c.next_at-at.ensures.begins in
    let value : c.byte_at.result ≡ get_or d at 32 = rw (← same) c.byte_at.ensures.value in
    let may = sym c.may_begin.ensures ∙ c.if-may_begin.true in
    let stays : tokens_at a.before d at ≡ c.args.self.now = sym (same_tokens a.before d a.at at moved) ∙ c.self.view_is in
    (ap after_end_array (sym stays) ∙ array_goes_on a.before d at may within solid (λ z. omega arith), stays)

pub returns : goal.returns
returns c =
    let a = c.self.inside in
    let d = a.text.now in
    let at = c.next_at-at.result in
    let same = c.as_bytes-bytes.ensures.value in
    let moved : lexemes_at d at ≡ lexemes_at d a.at = rw (← same) c.next_at-at.ensures.same in
    let value : c.byte_at-2.result ≡ get_or d at 32 = rw (← same) c.byte_at-2.ensures.value in
    let stays = sym (behind_value a.before d a.at at (sym c.may_begin.ensures ∙ c.if-may_begin.false) moved (omega arith)) ∙ c.self.view_is in
    (ap after_end_array (sym stays) ∙ no_end_behind_comma (lexemes_at d (at + 1)), stays)
