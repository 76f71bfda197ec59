-- What the sinks of this crate hold.
use Rattle.std.specs.Prelude.{ℕ, ◌+◌, ◌-◌, ◌^◌, min, List, [], ◌∷◌, ◌++◌, map, string_bytes}
use Rattle.gltf_base.specs.Steps.{Step}
use Rattle.gltf_base.specs.Text.{path_text}
use Rattle.gltf_base.specs.declared.path.Path.{Path}
use Rattle.gltf_base.specs.declared.validation.Error.{Error}
use Rattle.gltf_validation_rules.specs.Report.{Report}
use Rattle.gltf_validation_rules.specs.declared.collect.Collect.{Collect}
use Rattle.gltf_validation_rules.specs.declared.sink.Count.{Count}

-- ---- a count

-- the reports that a count has counted
abbrev pub reports_counted : Count → ℕ
reports_counted c = c.count

-- one report more, as far as 64 bits hold it
abbrev pub one_more : ℕ → List Step → Error → ℕ
one_more n steps error = min (n + 1) (2 ^ 64 - 1)

-- ---- a collection

-- a path by its text, and what is wrong there
abbrev pub text_and_fault : Path × Error → List ℕ × Error
text_and_fault r = (string_bytes r.0.0, r.1)

abbrev pub texts_and_faults : List (Path × Error) → List (List ℕ × Error)
texts_and_faults rs = map text_and_fault rs

-- the reports that a collection holds, the oldest first
abbrev pub reports_collected : Collect → List (List ℕ × Error)
reports_collected c = texts_and_faults c.reports.items

-- one report more, behind the others
abbrev pub with_report : List (List ℕ × Error) → List Step → Error → List (List ℕ × Error)
with_report rs steps error = rs ++ (path_text steps, error) ∷ []

-- a report as a collection holds it
abbrev pub as_collected : Report → List ℕ × Error
as_collected r = (path_text r.steps, r.error)
