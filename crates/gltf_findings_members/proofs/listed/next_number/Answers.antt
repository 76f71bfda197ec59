-- A number is a value at any depth.
use Rattle.std.proofs.Common.{◌≡◌, ◌∷◌, ap, ◌∙◌, arith}
use Rattle.json.specs.Token.{Token}
use Rattle.json.specs.Json.{value}
use Rattle.json.proofs.Grammar.{value_is}
use Rattle.gltf_findings_members.proofs.listed.next_number.Goals as goal

pub returns-in-Number : goal.returns-in-Number
returns-in-Number c = λ depth.
    let here : c.args.reader.now ≡ Token.number c.in-Number.text.now ∷ c.next.new.self = grind arith in
    ap (value depth) here ∙ value_is depth _
