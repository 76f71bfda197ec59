use Rattle.std.proofs.Common.{◌≡◌, Some, option_map, sym, ap, ◌∙◌, arith}
use Rattle.serde_json.specs.Read.{number_of}
use Rattle.serde_json.specs.View.{number_view}
use Rattle.serde_json.specs.declared.value.Value.{Number as Held}
use Rattle.gltf_base.specs.Reals.{real_number}
use Rattle.gltf_schema.proofs.OneToken.{real_at}
use Rattle.gltf_schema.proofs.Values.{view-Number}
use Rattle.gltf_schema.proofs.leaf.RealSchema.from_token.Goals as goal

pub returns-in-Ok-clause-read : goal.returns-in-Ok-clause-read
returns-in-Ok-clause-read c =
    let from = c.args.from.now in
    let s = c.in_ok-text.text.now in
    let x = c.in_ok-number.number in
    let parsed : c.parse.result ≡ Some x = grind arith in
    let value : number_of s ≡ Some (number_view x) = sym c.parse.ensures ∙ ap (option_map number_view) parsed in
    real_at from.depth s from.reader c.number.new.self (number_view x) (Held x) (real_number c.in-Ok.x) c.in_ok-text.ensures value (view-Number x) c.in-Ok.ensures.is_number
