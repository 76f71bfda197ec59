-- The leaf is quiet if it has no fault.
use Rattle.std.proofs.Common.{◌≡◌, ◌∙◌, rules}
use Rattle.std.specs.Option.{is_none}
use Rattle.gltf_validation_objects.proofs.QuietChecklists.{quiet_leaf}
use Rattle.gltf_validation_objects.proofs.look.LookEventBuilder.fault_at.Goals as goal

pub returns : goal.returns
returns c context move e =
    let none : c.is_none.result ≡ is_none c.args.fault = search rules in
    c.quiet_if.ensures _ _ move (none ∙ quiet_leaf c.args.fault) e
