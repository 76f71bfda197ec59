use Rattle.std.proofs.Common.{◌≡◌, ◌++◌, drop, map}
use Rattle.std.specs.String.{string_bytes}
use Rattle.gltf_base.specs.Steps.{step_of}
use Rattle.gltf_base.specs.Pointers.{pointer_text}
use Rattle.gltf_base.proofs.path.Path.pointer_of_steps.Given as goal

-- the rest of the steps behind what is written gives the whole text
abbrev pub invariant-loop-step : goal.invariant-loop-step
invariant-loop-step l = string_bytes l.pointer ++ pointer_text (map step_of (drop l.step-index l.steps)) ≡ pointer_text (map step_of l.steps)
