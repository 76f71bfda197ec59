use Rattle.std.proofs.lemmas.Result.{on_ok_weaker}
use Rattle.gltf_schema.proofs.InTokens.{truth_printed}
use Rattle.gltf_schema.proofs.printed.print_truth.Goals as goal

pub returns-clause-ok : goal.returns-clause-ok
returns-clause-ok g c = on_ok_weaker c.truth.result (truth_printed c.args.b _ _) c.truth.ensures.ok
