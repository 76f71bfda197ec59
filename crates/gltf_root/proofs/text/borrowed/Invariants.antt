-- The steps so far.
use Rattle.std.proofs.Common.{◌≡◌, map, take}
use Rattle.gltf_base.specs.Steps.{step_of}
use Rattle.gltf_schema.specs.RowPlacing.{owned_step}
use Rattle.gltf_root.proofs.text.borrowed.Given as goal

abbrev pub invariant-loop-step : goal.invariant-loop-step
invariant-loop-step l = map step_of l.found.items ≡ map owned_step (take l.step-index l.steps)
