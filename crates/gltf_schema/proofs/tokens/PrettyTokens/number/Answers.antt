use Rattle.std.proofs.Common.{arith}
use Rattle.std.proofs.lemmas.Result.{on_ok_weaker}
use Rattle.serde_json.specs.View.{number_view}
use Rattle.gltf_schema.proofs.NumbersPrinted.{whole_behind}
use Rattle.gltf_schema.proofs.tokens.PrettyTokens.number.Goals as goal

pub returns-in-Some-clause-ok : goal.returns-in-Some-clause-ok
returns-in-Some-clause-ok c = on_ok_weaker c.whole.result (λ e. whole_behind c.in-Some.whole (number_view c.args.n.now) _ _ (omega arith) c.in-Some.ensures e) c.whole.ensures.ok
