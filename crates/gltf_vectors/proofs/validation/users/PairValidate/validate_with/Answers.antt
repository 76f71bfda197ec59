-- Each member in turn.
use Rattle.std.proofs.Common.{lit≤, refl}
use Rattle.gltf_validation_rules.proofs.Walks.{walked_then, walked_stopped}
use Rattle.gltf_vectors.proofs.validation.users.PairValidate.validate_with.Goals as goal

pub returns-clause-walked : goal.returns-clause-walked
returns-clause-walked g c = walked_then (walked_then c.in_ok-member.ensures c.in_ok-member-2.ensures) c.member-3.ensures

pub returns-in_err-member-clause-walked : goal.returns-in_err-member-clause-walked
returns-in_err-member-clause-walked g c =
    walked_stopped _ {n = 1} {m = 2} c.from_residual.ensures.1 (lit≤ tt) (walked_stopped _ {n = 1} {m = 1} refl (lit≤ tt) c.in_err-member.ensures)

pub returns-in_err-member-2-clause-walked : goal.returns-in_err-member-2-clause-walked
returns-in_err-member-2-clause-walked g c =
    walked_stopped _ {n = 1} {m = 2} c.from_residual-in_err-member-2.ensures.1 (lit≤ tt) (walked_then c.in_ok-member.ensures c.in_err-member-2.ensures)
