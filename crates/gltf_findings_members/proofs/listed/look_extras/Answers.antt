-- Null and objects have no notices as extras.
use Rattle.std.proofs.Common.{◌≡◌, ◌∷◌, None, refl, ap, ◌∙◌, arith}
use Rattle.json.specs.Token.{Token}
use Rattle.json.specs.Json as tree
use Rattle.json.specs.Json.{value}
use Rattle.json.specs.Reads.{token_of}
use Rattle.json.proofs.Grammar.{value_is}
use Rattle.serde_json.specs.Data.{null}
use Rattle.gltf_findings_members.specs.Format.{extras_code}
use Rattle.gltf_findings_members.proofs.NoneNoted.{object_reads, reads_as}
use Rattle.gltf_findings_members.proofs.listed.look_extras.Goals as goal

pub returns-in-Null : goal.returns-in-Null
returns-in-Null c =
    let here : c.args.reader.now ≡ Token.null ∷ c.next.new.self = grind arith in
    (tree.null, ap (value c.args.depth) here ∙ value_is c.args.depth _, λ yes. reads_as tree.null null (λ d. extras_code d ≡ None) refl refl)

pub returns-in-String : goal.returns-in-String
returns-in-String c =
    let text = c.in-String.field-0.now in
    let here : c.args.reader.now ≡ Token.string text ∷ c.next.new.self = grind arith in
    (tree.string text, ap (value c.args.depth) here ∙ value_is c.args.depth _, λ never. absurd (cc))

pub returns-in-Number : goal.returns-in-Number
returns-in-Number c =
    let text = c.in-Number.field-0.now in
    let here : c.args.reader.now ≡ Token.number text ∷ c.next.new.self = grind arith in
    (tree.number text, ap (value c.args.depth) here ∙ value_is c.args.depth _, λ never. absurd (cc))

pub returns-in-Bool : goal.returns-in-Bool
returns-in-Bool c =
    let b = c.in-Bool.field-0 in
    let here : c.args.reader.now ≡ Token.boolean b ∷ c.next.new.self = grind arith in
    (tree.boolean b, ap (value c.args.depth) here ∙ value_is c.args.depth _, λ never. absurd (cc))

pub returns-in_ok-skip_object-in_default : goal.returns-in_ok-skip_object-in_default
returns-in_ok-skip_object-in_default c =
    let here : c.args.reader.now ≡ token_of c.in_ok-token.token ∷ c.next.new.self = grind arith in
    let js = c.in_ok-skip_object-in_default.ensures in
    (tree.object js.0, ap (value c.args.depth) here ∙ js.1, λ yes. object_reads js.0 (λ d. extras_code d ≡ None) (λ ms e. refl))
