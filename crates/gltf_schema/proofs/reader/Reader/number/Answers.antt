use Rattle.std.proofs.Common.{◌≡◌, ◌<◌, ◌≤◌, ◌∷◌, length, get_or, sym, ap, ◌∙◌, arith}
use Rattle.json.specs.Token.{number}
use Rattle.json.specs.Lex.{after_value, punctuate}
use Rattle.gltf_schema.specs.Lexemes.{lexemes_at, bytes_between, IsTokenAt}
use Rattle.gltf_schema.proofs.NextTokens.{leaf_next, number_leaf}
use Rattle.std.proofs.lemmas.Str.{IsCharBoundary-before_ascii}
use Rattle.gltf_schema.proofs.reader.Reader.number.Goals as goal

pub range-requires-clause-start_boundary : goal.range-requires-clause-start_boundary
range-requires-clause-start_boundary c some =
    let d = c.self.inside.text.now in
    let at = c.next_at-at.result in
    let same = c.as_bytes-bytes.ensures.value in
    let within : (at < c.in-Some.end) × (c.in-Some.end ≤ length d) = rw (← same) c.in-Some.ensures.within in
    let ascii : (get_or d at 0 < 128) × (get_or d c.in-Some.end 0 < 128) = rw (← same) c.in-Some.ensures.ascii in
    IsCharBoundary-before_ascii d at (omega arith) ascii.0

pub range-requires-clause-end_boundary : goal.range-requires-clause-end_boundary
range-requires-clause-end_boundary c =
    let d = c.self.inside.text.now in
    let end = c.in-Some.end in
    let same = c.as_bytes-bytes.ensures.value in
    let within : (c.next_at-at.result < end) × (end ≤ length d) = rw (← same) c.in-Some.ensures.within in
    let ascii : (get_or d c.next_at-at.result 0 < 128) × (get_or d end 0 < 128) = rw (← same) c.in-Some.ensures.ascii in
    (within.1, λ h big. absurd (omega (arith, ascii.1, big)))

pub returns : goal.returns
returns c =
    let a = c.self.inside in
    let d = a.text.now in
    let at = c.next_at-at.result in
    let end = c.in-Some.end in
    let same = c.as_bytes-bytes.ensures.value in
    let moved : lexemes_at d at ≡ lexemes_at d a.at = rw (← same) c.next_at-at.ensures.same in
    let token : IsTokenAt d at (number (bytes_between d at end)) end = rw (← same) c.in-Some.ensures.token in
    sym c.self.view_is ∙ leaf_next a.before d a.at at end _ (number_leaf _) (sym c.may_begin.ensures ∙ c.if-not-may_begin.false) moved token
    ∙ ap (λ s. number s ∷ punctuate after_value (lexemes_at d end)) (sym c.range.ensures.value)
