use Rattle.std.proofs.lemmas.Result.{on_ok_weaker}
use Rattle.gltf_schema.proofs.InTokens.{string_printed}
use Rattle.gltf_schema.proofs.printed.print_text.Goals as goal

pub returns-clause-ok : goal.returns-clause-ok
returns-clause-ok g c = on_ok_weaker c.text.result (string_printed c.args.text.now _ _) c.text.ensures.ok
