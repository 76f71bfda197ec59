use Rattle.gltf_schema.proofs.Parts.{on_some}
use Rattle.gltf_schema.proofs.Literals.{null_at}
use Rattle.gltf_schema.proofs.literal.null_end.Goals as goal

pub returns-clause-token : goal.returns-clause-token
returns-clause-token c = on_some c.word_end.result (λ end is. null_at c.args.text.now c.args.at end is) c.word_end.ensures
