-- Pushes of items that are refused with their first report.
use Rattle.std.proofs.Common.{◌≡◌, List, None, Some, Result, Ok, Err, IfOk, IfErr, OnErr, sym, ◌∙◌}
use Rattle.std.proofs.lemmas.Option.{same_Some}
use Rattle.std.specs.List.{last_or}
use Rattle.gltf_base.specs.Lists.{ListName}
use Rattle.gltf_base.specs.declared.index.IndexTo.{IndexTo}
use Rattle.gltf_base.specs.declared.validation.Error.{Error}
use Rattle.gltf_schema.specs.Tree.{Tree}
use Rattle.gltf_validation_rules.specs.Context.{Rules}
use Rattle.gltf_validation.specs.Clean.{IsPushed}
use Rattle.gltf_validation.specs.Reported.{IsFaultyLast, IsPushRefused, IsPushedOrReported}
use Rattle.gltf_validation.specs.declared.refused.Refused.{Refused}
use Rattle.gltf_validation.specs.declared.refused.Refused.TheVariants.{Full, Memory, NoItem, Faulty}

-- the last item of a list that is taken back is the faulty one
pub is_faulty_last : {X : Type 0} (rules : Rules) (named : ListName) (item : X) (x before : Tree) (items : List X) (root : Tree) (error : Error) (back : X)
    → IsFaultyLast rules named item x before items root error → last_or None items ≡ Some back → back ≡ item
is_faulty_last rules named item x before items root error back faulty last = sym (same_Some item back (sym faulty.0 ∙ last))

pub is_pushed_or_reported : {P X : Type 0} (rules : Rules) (named : ListName) (item : X) (x old : Tree) (result : Result (IndexTo P) (Refused X)) (new : Tree)
    → IfOk result (λ index. IsPushed rules named item x old (Ok index) new) → IfErr result (λ refused. IsPushRefused rules named item x old refused old) → OnErr result (new ≡ old)
    → IsPushedOrReported rules named item x old result new
is_pushed_or_reported rules named item x old (Ok index) new made refused same = made
is_pushed_or_reported rules named item x old (Err (Full back)) new made refused same = (refused.0, refused.1, same)
is_pushed_or_reported rules named item x old (Err (Memory back)) new made refused same = (refused.0, refused.1, same)
is_pushed_or_reported rules named item x old (Err (Faulty back report)) new made refused same = (refused.0, refused.1, refused.2, same)
is_pushed_or_reported rules named item x old (Err (NoItem back)) new made refused same = absurd refused
