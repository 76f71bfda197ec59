use Rattle.std.proofs.Common.{◌≡◌, drop, map}
use Rattle.std.specs.String.{string_bytes}
use Rattle.gltf_base.specs.Steps.{step_of}
use Rattle.gltf_base.specs.Text.{path_text, text_behind}
use Rattle.gltf_base.proofs.path.Path.of_steps.Given as goal

-- the rest of the steps applied to what is written gives the whole text
abbrev pub invariant-loop-step : goal.invariant-loop-step
invariant-loop-step l = text_behind (string_bytes l.written) (map step_of (drop l.step-index l.steps)) ≡ path_text (map step_of l.steps)
