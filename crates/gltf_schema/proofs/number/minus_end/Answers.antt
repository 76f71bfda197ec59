use Rattle.std.proofs.Common.{refl, arith}
use Rattle.gltf_schema.proofs.Parts.{runs_past}
use Rattle.gltf_schema.proofs.number.minus_end.Goals as goal

pub returns-then-byte_at-eq45-clause-runs : goal.returns-then-byte_at-eq45-clause-runs
returns-then-byte_at-eq45-clause-runs c = runs_past c.args.text.now c.args.at 45 (omega (arith, c.byte_at.ensures.value)) (λ z. omega arith) refl
