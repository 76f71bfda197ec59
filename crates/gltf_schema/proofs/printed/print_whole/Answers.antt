use Rattle.std.proofs.Common.{refl, arith}
use Rattle.std.proofs.lemmas.Result.{on_ok_weaker}
use Rattle.gltf_schema.proofs.InTokens.{number_printed}
use Rattle.gltf_schema.proofs.printed.print_whole.Goals as goal

pub returns-clause-ok : goal.returns-clause-ok
returns-clause-ok g c = on_ok_weaker c.whole.result (number_printed c.args.n _ _ _ (omega arith) refl) c.whole.ensures.ok
