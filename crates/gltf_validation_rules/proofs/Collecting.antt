-- What a collection holds after a run of reports.
use Rattle.std.proofs.Common.{◌≡◌, ℕ, List, [], ◌∷◌, ◌++◌, map, sym, ◌∙◌, append-nil, append_assoc}
use Rattle.gltf_base.specs.declared.validation.Error.{Error}
use Rattle.gltf_validation_rules.specs.Report.{Report}
use Rattle.gltf_validation_rules.specs.SinkOutcome.{run}
use Rattle.gltf_validation_rules.specs.Sinks.{as_collected, with_report}

-- the new reports stand behind the others, in order
pub collected : (held : List (List ℕ × Error)) (rs : List Report) → run with_report held rs ≡ held ++ map as_collected rs
collected held [] = sym (append-nil held)
collected held (r ∷ rs) = collected (held ++ as_collected r ∷ []) rs ∙ append_assoc held (as_collected r ∷ []) (map as_collected rs)
