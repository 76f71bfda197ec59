-- A text is a value at any depth.
use Rattle.std.proofs.Common.{◌≡◌, ◌∷◌, ap, ◌∙◌, arith}
use Rattle.json.specs.Token.{Token}
use Rattle.json.specs.Json.{value}
use Rattle.json.proofs.Grammar.{value_is}
use Rattle.gltf_findings_members.proofs.root_lists.next_text.Goals as goal

pub returns-in-String : goal.returns-in-String
returns-in-String c = λ depth.
    let here : c.args.reader.now ≡ Token.string c.in-String.text.now ∷ c.next.new.self = grind arith in
    ap (value depth) here ∙ value_is depth _
