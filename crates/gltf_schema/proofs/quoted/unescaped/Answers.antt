use Rattle.std.proofs.Common.{◌≡◌, ◌∷◌, Some, sym, ap, ◌∙◌, arith}
use Rattle.json.specs.Token.{string}
use Rattle.json.specs.Lex.{tokens}
use Rattle.gltf_schema.proofs.Parts.{is_within, byte_is}
use Rattle.gltf_schema.proofs.Escaped.{quoted_content}
use Rattle.gltf_schema.proofs.quoted.unescaped.Goals as goal

pub returns-in_ok-from_str-in-Some-String : goal.returns-in_ok-from_str-in-Some-String
returns-in_ok-from_str-in-Some-String c =
    let q = c.args.quoted.now in
    let s = c.in-Some-String.text.now in
    let one : tokens q ≡ string s ∷ c.next.new.self = grind arith in
    quoted_content q s c.next.new.self (is_within q 0 34 c.requires (λ z. omega arith)) (byte_is q 0 34 c.requires (λ z. omega arith)) one ∙ ap Some (sym c.in_ok-from_str-in-Some-String.ensures.ok)
