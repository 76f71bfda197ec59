use Rattle.std.proofs.Common.{◌≡◌, ◌≤◌, length, sym, ap, ◌∙◌, arith}
use Rattle.gltf_schema.specs.Lexemes.{lexemes_at}
use Rattle.gltf_schema.proofs.NextTokens.{all_over}
use Rattle.gltf_schema.proofs.reader.Reader.is_over.Goals as goal

pub returns-then-may_end : goal.returns-then-may_end
returns-then-may_end c over =
    let a = c.self.inside in
    let d = a.text.now in
    let at = c.next_at.result in
    let same = c.as_bytes-bytes.ensures.value in
    let moved : lexemes_at d at ≡ lexemes_at d a.at = rw (← same) c.next_at.ensures.same in
    let past : length d ≤ at = grind (arith, over, ap length same) in
    sym c.self.view_is ∙ all_over a.before d a.at at (sym c.may_end.ensures ∙ c.if-may_end.true) moved past
