use Rattle.std.proofs.Common.{◌≡◌, ◌+◌, ◌<◌, ◌≤◌, ◌∷◌, length, false, get_or, sym, ap, ◌∙◌, subst, arith}
use Rattle.std.specs.Str.{IsUtf8}
use Rattle.json.specs.Token.{string}
use Rattle.json.specs.Lex.{class, after_value, punctuate}
use Rattle.json.specs.Align.{is_blank}
use Rattle.gltf_schema.specs.Lexemes.{lexemes_at, bytes_between, IsTokenAt}
use Rattle.gltf_schema.proofs.NextTokens.{text_next}
use Rattle.gltf_schema.proofs.Parts.{boundary_behind}
use Rattle.gltf_schema.proofs.Firsts.{no_colon}
use Rattle.gltf_schema.proofs.reader.Reader.string.Goals as goal

pub range-requires-clause-start_boundary : goal.range-requires-clause-start_boundary
range-requires-clause-start_boundary c some =
    let d = c.self.inside.text.now in
    let same = c.as_bytes-bytes.ensures.value in
    let value : c.byte_at.result ≡ get_or d c.next_at-at.result 32 = rw (← same) c.byte_at.ensures.value in
    boundary_behind d c.next_at-at.result 34 (subst IsUtf8 same c.as_bytes-bytes.ensures.utf8) (omega arith) (λ z. omega arith) (omega arith)

pub returns-clause-value : goal.returns-clause-value
returns-clause-value c =
    let a = c.self.inside in
    let d = a.text.now in
    let at = c.next_at-at.result in
    let end = c.in-Some.end in
    let next = c.next_at-next.result in
    let same = c.as_bytes-bytes.ensures.value in
    let moved : lexemes_at d at ≡ lexemes_at d a.at = rw (← same) c.next_at-at.ensures.same in
    let token : IsTokenAt d at (string (bytes_between d (at + 1) end)) (end + 1) = rw (← same) c.in-Some.ensures.token in
    let behind : lexemes_at d next ≡ lexemes_at d (end + 1) = rw (← same) c.next_at-next.ensures.same in
    let within : next ≤ length d = rw (← same) c.next_at-next.ensures.within in
    let solid : next < length d → is_blank (class (get_or d next 32)) ≡ false = rw (← same) c.next_at-next.ensures.begins in
    let value : c.byte_at-2.result ≡ get_or d next 32 = rw (← same) c.byte_at-2.ensures.value in
    let apart = no_colon d next within solid (λ z. omega arith) in
    sym c.self.view_is ∙ text_next a.before d a.at at (end + 1) next _ (sym c.may_begin.ensures ∙ c.if-not-may_begin.false) moved token behind apart
    ∙ ap (λ s. string s ∷ punctuate after_value (lexemes_at d next)) (sym c.range.ensures.value)
