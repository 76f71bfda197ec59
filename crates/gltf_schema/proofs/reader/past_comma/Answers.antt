use Rattle.std.proofs.Common.{sym, subst, arith}
use Rattle.gltf_schema.specs.Lexemes.{IsBehindComma}
use Rattle.gltf_schema.proofs.NextTokens.{comma_next}
use Rattle.gltf_schema.proofs.reader.past_comma.Goals as goal

pub returns-then-byte_at-eq44-clause-same : goal.returns-then-byte_at-eq44-clause-same
returns-then-byte_at-eq44-clause-same c =
    let d = c.args.text.now in
    subst (λ p. IsBehindComma d p c.args.at c.next_at.result) (sym c.in-Value.is) (comma_next d c.args.at c.next_at.result (omega (arith, c.byte_at.ensures.value)) c.next_at.ensures.same)
