use Rattle.gltf_schema.proofs.OneToken.{on_value, truth_next}
use Rattle.gltf_schema.proofs.leaf.BoolSchema.from_token.Goals as goal

pub returns-clause-read : goal.returns-clause-read
returns-clause-read c = let from = c.args.from.now in on_value c.boolean.result (λ b is. truth_next from.depth b from.reader c.boolean.new.self is) c.boolean.ensures
