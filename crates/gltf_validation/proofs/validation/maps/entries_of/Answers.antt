-- One entry after another.
use Rattle.std.proofs.Common.{rules, ◌≡◌}
use Rattle.gltf_validation_rules.proofs.Loops.{underway-begin, underway-more, underway-exit}
use Rattle.gltf_validation.proofs.validation.maps.entries_of.Goals as goal

pub loop-key-init : goal.loop-key-init
loop-key-init g c =
    let e : c.into_iter-key-iterator.result ≡ c.args.map.now.entries = search rules in
    rw e (underway-begin _ _ _)

pub loop-key-preserved : goal.loop-key-preserved
loop-key-preserved g c = underway-more _ _ (rw c.in-Some.ensures.steps at c.loop-key.invariant) c.in_ok-entry.ensures

pub returns-in_err-entry : goal.returns-in_err-entry
returns-in_err-entry g c =
    underway-exit _ _ c.from_residual.ensures.1 (rw c.in-Some.ensures.steps at c.loop-key.invariant) c.in_err-entry.ensures
