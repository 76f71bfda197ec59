use Rattle.std.proofs.Common.{◌≡◌, get_or, sym, ◌∙◌, arith}
use Rattle.gltf_schema.specs.Lexemes.{lexemes_at}
use Rattle.gltf_schema.proofs.NextTokens.{array_next}
use Rattle.gltf_schema.proofs.reader.Reader.begin_array.Goals as goal

pub returns : goal.returns
returns c =
    let a = c.self.inside in
    let d = a.text.now in
    let next = c.next_at-at.result in
    let same = c.as_bytes-bytes.ensures.value in
    let moved : lexemes_at d next ≡ lexemes_at d a.at = rw (← same) c.next_at-at.ensures.same in
    let byte : c.byte_at.result ≡ get_or d next 32 = rw (← same) c.byte_at.ensures.value in
    sym c.self.view_is ∙ array_next a.before d a.at next (sym c.may_begin.ensures ∙ c.if-not-may_begin.false) moved (omega arith)
