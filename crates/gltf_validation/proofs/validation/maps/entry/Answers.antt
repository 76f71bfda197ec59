-- The key's reports, and then the value's.
use Rattle.std.proofs.Common.{arith}
use Rattle.gltf_validation_rules.proofs.Walks.{walked_then, walked_stopped, walked_wider}
use Rattle.gltf_validation.proofs.validation.maps.entry.Goals as goal

pub returns : goal.returns
returns g c =
    walked_then (rw c.key_step.ensures at c.in_ok-within.ensures)
    (walked_wider (omega arith) (rw c.key_step-2.ensures at c.within-2.ensures))

pub returns-in_err-within : goal.returns-in_err-within
returns-in_err-within g c = walked_stopped _ c.from_residual.ensures.1 (omega arith) (rw c.key_step.ensures at c.in_err-within.ensures)
