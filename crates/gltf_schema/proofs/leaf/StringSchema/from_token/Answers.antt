use Rattle.std.proofs.Common.{string_bytes, refl}
use Rattle.gltf_schema.proofs.OneToken.{on_value, text_next}
use Rattle.gltf_schema.proofs.leaf.StringSchema.from_token.Goals as goal

pub returns-clause-read : goal.returns-clause-read
returns-clause-read c =
    let from = c.args.from.now in
    on_value c.text.result (λ s is. text_next from.depth (string_bytes s) (string_bytes s) from.reader c.text.new.self is refl) c.text.ensures
