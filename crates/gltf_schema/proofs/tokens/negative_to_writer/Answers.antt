use Rattle.std.proofs.Common.{to_z-of_z, ap}
use Rattle.std.proofs.lemmas.Result.{on_ok_weaker}
use Rattle.std.specs.Fmt.{signed_decimal}
use Rattle.gltf_schema.proofs.NumbersPrinted.{negative_behind}
use Rattle.gltf_schema.proofs.tokens.negative_to_writer.Goals as goal

pub returns-clause-ok : goal.returns-clause-ok
returns-clause-ok c = on_ok_weaker c.i64.result (λ e. negative_behind c.args.n _ _ _ c.requires c.ranges.n (ap signed_decimal (to_z-of_z c.ranges.n)) e) c.i64.ensures.ok
