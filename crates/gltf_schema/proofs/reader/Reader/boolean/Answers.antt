use Rattle.std.proofs.Common.{◌≡◌, true, false, sym, ◌∙◌}
use Rattle.json.specs.Token.{boolean}
use Rattle.gltf_schema.specs.Lexemes.{lexemes_at, IsTokenAt}
use Rattle.gltf_schema.proofs.NextTokens.{leaf_next, boolean_leaf}
use Rattle.gltf_schema.proofs.reader.Reader.boolean.Goals as goal

pub returns-in-Some : goal.returns-in-Some
returns-in-Some c =
    let a = c.self.inside in
    let d = a.text.now in
    let at = c.next_at-at.result in
    let same = c.as_bytes-bytes.ensures.value in
    let moved : lexemes_at d at ≡ lexemes_at d a.at = rw (← same) c.next_at-at.ensures.same in
    let token : IsTokenAt d at (boolean true) c.in-Some.end = rw (← same) c.in-Some.ensures.token in
    sym c.self.view_is ∙ leaf_next a.before d a.at at c.in-Some.end (boolean true) (boolean_leaf true) (sym c.may_begin.ensures ∙ c.if-not-may_begin.false) moved token

pub returns : goal.returns
returns c =
    let a = c.self.inside in
    let d = a.text.now in
    let at = c.next_at-at.result in
    let end = c.in-Some-false_end.end in
    let same = c.as_bytes-bytes.ensures.value in
    let moved : lexemes_at d at ≡ lexemes_at d a.at = rw (← same) c.next_at-at.ensures.same in
    let token : IsTokenAt d at (boolean false) end = rw (← same) c.in-Some-false_end.ensures.token in
    sym c.self.view_is ∙ leaf_next a.before d a.at at end (boolean false) (boolean_leaf false) (sym c.may_begin.ensures ∙ c.if-not-may_begin.false) moved token
