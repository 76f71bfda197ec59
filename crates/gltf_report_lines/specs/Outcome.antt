-- What an outcome says of a document.
use Rattle.std.specs.Prelude.{◌≡◌, ◌⊎◌, [], string_bytes}
use Rattle.gltf_root.specs.Answer.{no_json, no_document}
use Rattle.gltf_validation_rules.specs.Context.{standard_rules}
use Rattle.gltf_report_lines.specs.declared.outcome.Outcome.{Outcome}
use Rattle.gltf_report_lines.specs.declared.outcome.Outcome.TheVariants.{Clean, Reports, NotJson, NotDocument, GivenUp}
use Rattle.gltf_report_lines.specs.Output.{Output, answer_output, reports_output, refusal}

-- its text, and the exit status; why bytes are refused is the same by all rules
abbrev pub outcome_output : Outcome → Output
outcome_output Clean = reports_output []
outcome_output (Reports lines) = record { text = string_bytes lines; status = 1 }
outcome_output NotJson = answer_output standard_rules no_json
outcome_output NotDocument = answer_output standard_rules no_document
outcome_output GivenUp = refusal

-- an outcome says what is due, or that memory was refused
abbrev pub IsOutcome : Output → Outcome → Type 0
IsOutcome due outcome = (outcome_output outcome ≡ due) ⊎ (outcome_output outcome ≡ refusal)
