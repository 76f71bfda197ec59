-- What is printed of why validation stopped.
use Rattle.std.specs.Prelude.{ℕ, List, codes, Option, Some}
use Rattle.gltf_validation_rules.specs.declared.sink.Stop.{Stop}
use Rattle.gltf_validation_rules.specs.declared.sink.Stop.TheVariants.{StepsFull, Sink}

-- the same for every refusal: why a sink refuses is the sink's own
abbrev pub stop_text : {R : Type 0} → Stop R → Option (List ℕ)
stop_text StepsFull = Some (codes "Path is full")
stop_text (Sink refusal) = Some (codes "Report refused")
