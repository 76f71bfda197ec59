use Rattle.gltf_validation.proofs.Changing.{is_required}
use Rattle.gltf_validation.proofs.changes.calls_that_succeed_are_changes.Goals as goal

pub returns-clause-pushed : goal.returns-clause-pushed
returns-clause-pushed c start rules named item x at old new h = (h.1, h.3)

pub returns-clause-replaced : goal.returns-clause-replaced
returns-clause-replaced c start rules named n item was x old new h = (h.1, h.2)

pub returns-clause-required : goal.returns-clause-required
returns-clause-required c start rules names old new h = is_required rules names old new h
