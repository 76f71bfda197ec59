-- The lines of the reports that came, and of those that are still to come.
use Rattle.std.proofs.Common.{◌≡◌, ◌++◌, length, string_bytes}
use Rattle.gltf_root.specs.Root.{root_tree}
use Rattle.gltf_validation_rules.specs.Context.{rules_of}
use Rattle.gltf_validation_rules.specs.Reports.{document_reports}
use Rattle.gltf_validation_walk.specs.ToCome.{to_come}
use Rattle.gltf_report_lines.specs.Lines.{report_lines}
use Rattle.gltf_report_lines.proofs.file_lines.all_lines.Given as goal

abbrev pub decreases-loop-error : goal.decreases-loop-error
decreases-loop-error l = length (to_come l.walk)

abbrev pub invariant-loop-error : goal.invariant-loop-error
invariant-loop-error l = report_lines l.format l.file (document_reports (rules_of l.rules) (root_tree l.root)) ≡ string_bytes l.lines ++ report_lines l.format l.file (to_come l.walk)
