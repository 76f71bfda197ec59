use Rattle.std.proofs.Common.{◌≡◌, to_z-of_z, sym, ap, ◌∙◌, subst}
use Rattle.std.proofs.lemmas.Result.{on_ok_weaker}
use Rattle.std.specs.Fmt.{signed_decimal}
use Rattle.json.specs.Print.{IsNumber}
use Rattle.json.proofs.Printed.Decimals.{IsNumber-signed_decimal}
use Rattle.gltf_schema.proofs.NumbersPrinted.{negative_behind}
use Rattle.gltf_schema.proofs.tokens.negative_to_pretty.Goals as goal

pub token-requires : goal.token-requires
token-requires c =
    let text : c.format.result.now ≡ signed_decimal c.args.n = c.format.ensures.text ∙ ap signed_decimal (to_z-of_z c.ranges.n) in
    subst IsNumber (sym text) (IsNumber-signed_decimal c.args.n c.ranges.n.sfits)

pub returns : goal.returns
returns c =
    let text : c.format.result.now ≡ signed_decimal c.args.n = c.format.ensures.text ∙ ap signed_decimal (to_z-of_z c.ranges.n) in
    record { ok = on_ok_weaker c.token.result (λ e. negative_behind c.args.n c.format.result.now _ _ c.requires c.ranges.n text e) c.token.ensures.ok }
