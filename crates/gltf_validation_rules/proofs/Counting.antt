-- What a count holds after a run of reports, and what one that stays at zero was handed.
use Rattle.std.proofs.Common.{◌≡◌, ℕ, ◌+◌, ◌-◌, ◌^◌, ◌<◌, ◌≤◌, List, [], ◌∷◌, length, min, refl, arith}
use Rattle.gltf_validation_rules.specs.Report.{Report}
use Rattle.gltf_validation_rules.specs.SinkOutcome.{run}
use Rattle.gltf_validation_rules.specs.Sinks.{one_more}

-- a count never falls
run-le : (n : ℕ) (rs : List Report) → n ≤ 2 ^ 64 - 1 → n ≤ run one_more n rs
run-le n [] h = omega arith
run-le n (r ∷ rs) h = let later = run-le (min (n + 1) (2 ^ 64 - 1)) rs (omega arith) in omega (arith, later)

pub none_counted : (rs : List Report) → run one_more 0 rs ≡ 0 → rs ≡ []
none_counted [] h = refl
none_counted (r ∷ rs) h = let later = run-le (min (0 + 1) (2 ^ 64 - 1)) rs (omega arith) in absurd (omega (arith, later, h))

-- a count holds the number of its reports, as far as 64 bits hold it
pub counted : (n : ℕ) (rs : List Report) → n < 2 ^ 64 → run one_more n rs ≡ min (n + length rs) (2 ^ 64 - 1)
counted n [] h = omega arith
counted n (r ∷ rs) h = let later = counted (min (n + 1) (2 ^ 64 - 1)) rs (omega arith) in omega (arith, later, h)
