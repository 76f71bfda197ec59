use Rattle.std.proofs.Common.{◌≡◌}
use Rattle.std.proofs.lemmas.Result.{on_ok_weaker}
use Rattle.json.proofs.Printed.Floats.{IsNumber-plus}
use Rattle.serde_json.specs.Find.{to_float}
use Rattle.serde_json.specs.View.{number_view}
use Rattle.gltf_schema.proofs.NumbersPrinted.{float_behind}
use Rattle.gltf_schema.proofs.tokens.float_to_pretty.Goals as goal

pub token-requires : goal.token-requires
token-requires c = IsNumber-plus 16 4 _ c.format_finite_with_plus.ensures.layout

pub returns : goal.returns
returns c =
    let same : c.unwrap.result ≡ to_float (number_view c.args.n.now) = cc in
    let text = c.format_finite_with_plus.ensures in
    record { ok = on_ok_weaker c.token.result (λ e. float_behind c.args.n.now c.unwrap.result c.format_finite_with_plus.result.now _ _ c.requires.0 c.requires.1 same text.layout text.parses e) c.token.ensures.ok }
