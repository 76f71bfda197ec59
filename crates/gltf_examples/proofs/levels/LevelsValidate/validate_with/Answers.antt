-- One member, and then the other.
use Rattle.std.proofs.Common.{lit≤}
use Rattle.gltf_validation_rules.proofs.Walks.{walked_then, walked_stopped}
use Rattle.gltf_examples.proofs.levels.LevelsValidate.validate_with.Goals as goal

pub returns-clause-walked : goal.returns-clause-walked
returns-clause-walked g c = walked_then c.in_ok-member.ensures c.member-2.ensures

pub returns-in_err-member-clause-walked : goal.returns-in_err-member-clause-walked
returns-in_err-member-clause-walked g c =
    walked_stopped _ {n = 1} {m = 1} c.from_residual.ensures.1 (lit≤ tt) c.in_err-member.ensures
