-- The first byte begins the token, and the rest of it begins none.
use Rattle.std.proofs.Common.{◌≡◌, true, get_or, ◌∙◌, arith}
use Rattle.std.proofs.lemmas.Bool.Decides.{nat_tests}
use Rattle.json.specs.Lex.{class, between}
use Rattle.gltf_findings_lines.specs.Modes.{mode_behind}
use Rattle.gltf_findings_lines.proofs.Lexing.{rests_between, rest_count, rest_behind}
use Rattle.gltf_findings_lines.proofs.starts.Cursor.past_token.Goals as goal

pub returns-in-34-clause-count : goal.returns-in-34-clause-count
returns-in-34-clause-count c =
    let step = rest_count c.args.bytes.now c.args.self.offset c.past-behind.result.offset c.requires.more c.past-behind.ensures.offset c.requires.rests true c.requires.begins in
    c.past_string.ensures.count ∙ step

pub returns-in-123-clause-count : goal.returns-in-123-clause-count
returns-in-123-clause-count c =
    rest_count c.args.bytes.now c.args.self.offset c.past-behind.result.offset c.requires.more c.past-behind.ensures.offset c.requires.rests true c.requires.begins

pub returns-in-123-clause-rests : goal.returns-in-123-clause-rests
returns-in-123-clause-rests c =
    let bytes = c.args.bytes.now in
    let alone : mode_behind between (class (get_or bytes c.args.self.offset 0)) ≡ between = grind (arith, nat_tests, c.in-123.is) in
    rests_between bytes c.past-behind.result.offset (rest_behind bytes c.args.self.offset c.past-behind.result.offset c.requires.more c.past-behind.ensures.offset c.requires.rests ∙ alone)

pub returns-in_default-clause-count : goal.returns-in_default-clause-count
returns-in_default-clause-count c =
    let step = rest_count c.args.bytes.now c.args.self.offset c.past-behind.result.offset c.requires.more c.past-behind.ensures.offset c.requires.rests true c.requires.begins in
    c.past_word.ensures.count ∙ step
