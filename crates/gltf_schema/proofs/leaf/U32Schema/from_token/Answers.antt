use Rattle.std.proofs.Common.{◌≡◌, ◌^◌, nat_lt, true, subst, arith}
use Rattle.gltf_schema.specs.Streamed.{IsWholeNext}
use Rattle.gltf_schema.proofs.OneToken.{small_at}
use Rattle.gltf_schema.proofs.leaf.U32Schema.from_token.Goals as goal

pub returns-in-Ok-clause-read : goal.returns-in-Ok-clause-read
returns-in-Ok-clause-read c =
    let from = c.args.from.now in
    let n = c.in-Ok.n in
    let same : c.in_ok-whole.field-0 ≡ n = grind arith in
    let less : nat_lt n (2 ^ 32) ≡ true = grind arith in
    small_at from.depth from.reader c.whole.new.self n less (subst (λ m. IsWholeNext from.reader m c.whole.new.self) same c.in_ok-whole.ensures)
