use Rattle.gltf_schema.proofs.OneToken.{whole_at}
use Rattle.gltf_schema.proofs.leaf.USize64Schema.from_token.Goals as goal

pub returns-clause-read : goal.returns-clause-read
returns-clause-read c = let from = c.args.from.now in whole_at from.depth from.reader c.whole.new.self c.in_ok-whole.field-0 c.in_ok-whole.ensures
