use Rattle.std.proofs.lemmas.Result.{on_ok_weaker}
use Rattle.gltf_schema.proofs.InTokens.{null_printed}
use Rattle.gltf_schema.proofs.printed.print_null.Goals as goal

pub returns-clause-ok : goal.returns-clause-ok
returns-clause-ok g c = on_ok_weaker c.null.result (null_printed _ _) c.null.ensures.ok
