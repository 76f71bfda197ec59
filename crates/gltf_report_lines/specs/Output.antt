-- What is written and answered for the bytes of a document, by rules.
use Rattle.std.specs.Prelude.{ℕ, List, [], ◌∷◌, ◌++◌, codes}
use Rattle.gltf_base.specs.Errors.{error_text}
use Rattle.gltf_base.specs.Text.{path_text}
use Rattle.gltf_root.specs.Answer.{Answer, no_json, no_document, document, answer}
use Rattle.gltf_validation_rules.specs.Report.{Report}
use Rattle.gltf_validation_rules.specs.Context.{Rules}
use Rattle.gltf_validation_rules.specs.Reports.{document_reports}

-- a text, and an exit status
pub record Output : Type 0 where
  pub text : List ℕ
  pub status : ℕ

abbrev pub line : List ℕ → List ℕ
line text = text ++ 10 ∷ []

-- a report's place and what is wrong there
abbrev pub report_line : Report → List ℕ
report_line r = line (path_text r.steps ++ codes ": " ++ error_text r.error)

-- a line for each report, in order
abbrev pub report_lines : List Report → List ℕ
report_lines [] = []
report_lines (r ∷ rs) = report_line r ++ report_lines rs

abbrev pub reports_output : List Report → Output
reports_output [] = record { text = line (codes "clean"); status = 0 }
reports_output (r ∷ rs) = record { text = report_lines (r ∷ rs); status = 1 }

abbrev pub answer_output : Rules → Answer → Output
answer_output rules no_json = record { text = line (codes "refused: not JSON"); status = 2 }
answer_output rules no_document = record { text = line (codes "refused: not a glTF document"); status = 3 }
answer_output rules (document t) = reports_output (document_reports rules t)

abbrev pub output : Rules → List ℕ → Output
output rules bytes = answer_output rules (answer bytes)

-- where the document was not read to its end, or there is no memory
abbrev pub refusal : Output
refusal = record { text = line (codes "refused: input or output"); status = 4 }
