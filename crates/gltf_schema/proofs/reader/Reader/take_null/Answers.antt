use Rattle.std.proofs.Common.{◌≡◌, ◌<◌, ◌≤◌, length, false, get_or, sym, ◌∙◌, subst, arith}
use Rattle.json.specs.Token.{null}
use Rattle.json.specs.Lex.{class}
use Rattle.json.specs.Align.{is_blank}
use Rattle.gltf_schema.specs.Lexemes.{lexemes_at, tokens_at, IsTokenAt, IsNoNull}
use Rattle.gltf_schema.proofs.NextTokens.{leaf_next, null_leaf, same_tokens, not_null}
use Rattle.gltf_schema.proofs.reader.Reader.take_null.Goals as goal

pub returns-then-byte_at-ne110 : goal.returns-then-byte_at-ne110
returns-then-byte_at-ne110 c =
    let a = c.self.inside in
    let d = a.text.now in
    let at = c.next_at-at.result in
    let same = c.as_bytes-bytes.ensures.value in
    let moved : lexemes_at d at ≡ lexemes_at d a.at = rw (← same) c.next_at-at.ensures.same in
    let within : at ≤ length d = rw (← same) c.next_at-at.ensures.within in
    let solid : at < length d → is_blank (class (get_or d at 32)) ≡ false = rw (← same) c.next_at-at.ensures.begins in
    let value : c.byte_at.result ≡ get_or d at 32 = rw (← same) c.byte_at.ensures.value in
    let may = sym c.may_begin.ensures ∙ c.if-not-may_begin.false in
    let stays : tokens_at a.before d at ≡ c.args.self.now = sym (same_tokens a.before d a.at at moved) ∙ c.self.view_is in
    (stays, subst IsNoNull stays (not_null a.before d at may within solid (λ z. omega arith)))

pub returns : goal.returns
returns c =
    let a = c.self.inside in
    let d = a.text.now in
    let at = c.next_at-at.result in
    let same = c.as_bytes-bytes.ensures.value in
    let moved : lexemes_at d at ≡ lexemes_at d a.at = rw (← same) c.next_at-at.ensures.same in
    let token : IsTokenAt d at null c.in-Some.end = rw (← same) c.in-Some.ensures.token in
    sym c.self.view_is ∙ leaf_next a.before d a.at at c.in-Some.end null null_leaf (sym c.may_begin.ensures ∙ c.if-not-may_begin.false) moved token
