use Rattle.std.proofs.Common.{arith}
use Rattle.gltf_validation_rules.proofs.Counting.{counted}
use Rattle.gltf_validation_rules.proofs.sink_laws.counts_are_numbers_of_reports.Goals as goal

pub returns-clause-from_none : goal.returns-clause-from_none
returns-clause-from_none c rs = let all = counted 0 rs (omega arith) in omega (arith, all)

pub returns-clause-from_some : goal.returns-clause-from_some
returns-clause-from_some c n rs h = counted n rs h
