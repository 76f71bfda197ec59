-- What was written of a reading: the refusal, or the reading's output.
use Rattle.gltf_report_lines.specs.Output.{Output}
use Rattle.gltf_report_lines.specs.Run.{IsWritten}
use Rattle.gltf_report_lines.proofs.RunLemmas.{said-either, said-refusal}
use Rattle.gltf_report_lines.proofs.answer.Goals as goal

pub returns-clause-given_up : goal.returns-clause-given_up
returns-clause-given_up g c = λ none.
    said-refusal _ _ _ _ (c.of_reading-outcome.ensures.given_up none) c.write_outcome.ensures.status c.write_outcome.ensures.front

pub returns-clause-written : goal.returns-clause-written
returns-clause-written g c =
    said-either (λ (due : Output). IsWritten due _ _ _ _ _) _ _ c.of_reading-outcome.ensures.output c.write_outcome.ensures.written
