use Rattle.std.proofs.Common.{◌≡◌}
use Rattle.std.proofs.lemmas.Result.{on_ok_weaker}
use Rattle.serde_json.specs.Find.{to_float}
use Rattle.serde_json.specs.View.{number_view}
use Rattle.gltf_schema.proofs.NumbersPrinted.{float_behind}
use Rattle.gltf_schema.proofs.tokens.float_to_writer.Goals as goal

pub returns-clause-ok : goal.returns-clause-ok
returns-clause-ok c =
    let same : c.unwrap.result ≡ to_float (number_view c.args.n.now) = cc in
    on_ok_weaker c.float_with_plus.result (λ w. float_behind c.args.n.now c.unwrap.result w.0 _ _ c.requires.0 c.requires.1 same w.2 w.3 w.1) c.float_with_plus.ensures.layout
