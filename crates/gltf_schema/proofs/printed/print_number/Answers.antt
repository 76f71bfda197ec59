use Rattle.std.proofs.lemmas.Result.{on_ok_weaker}
use Rattle.serde_json.specs.View.{number_view}
use Rattle.gltf_schema.proofs.NumbersPrinted.{number_behind_printed}
use Rattle.gltf_schema.proofs.printed.print_number.Goals as goal

pub returns-clause-ok : goal.returns-clause-ok
returns-clause-ok g c = on_ok_weaker c.number.result (number_behind_printed (number_view c.args.n.now) _ _) c.number.ensures.ok
