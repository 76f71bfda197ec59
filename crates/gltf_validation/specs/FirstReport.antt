-- The first of some reports, as calls return it.
use Rattle.std.specs.Prelude.{ℕ, List, [], ◌∷◌, ◌++◌, Option, Some, None, string_bytes, codes}
use Rattle.gltf_base.specs.Errors.{error_text}
use Rattle.gltf_base.specs.declared.validation.Error.{Error}
use Rattle.gltf_validation_rules.specs.Report.{Report}
use Rattle.gltf_validation_rules.specs.Sinks.{as_collected}
use Rattle.gltf_validation.specs.declared.report.Report.{Report as Returned}

-- the first report: the text of its path, and what is wrong there
abbrev pub first_report : List Report → Option (List ℕ × Error)
first_report [] = None
first_report (r ∷ rs) = Some (as_collected r)

-- the same of a report that a call returns
abbrev pub report_shown : Returned → List ℕ × Error
report_shown r = (string_bytes r.path.0, r.error)

-- what such a report prints
abbrev pub report_text : Returned → List ℕ
report_text r = string_bytes r.path.0 ++ codes ": " ++ error_text r.error
