-- Each turn takes one of the reports that are still to come.
use Rattle.std.proofs.Common.{length, string_bytes}
use Rattle.gltf_root.specs.Root.{root_tree}
use Rattle.gltf_validation_rules.specs.Context.{rules_of}
use Rattle.gltf_validation_rules.specs.Reports.{document_reports}
use Rattle.gltf_validation_walk.specs.ToCome.{to_come}
use Rattle.gltf_report_lines.proofs.Printed.{IsPrinted}
use Rattle.gltf_report_lines.proofs.file_lines.found_in.Given as goal

abbrev pub decreases-loop-error : goal.decreases-loop-error
decreases-loop-error l = length (to_come l.walk)

abbrev pub invariant-loop-error : goal.invariant-loop-error
invariant-loop-error l = IsPrinted l.options.format l.file l.options.most
    (document_reports (rules_of l.options.rules) (root_tree l.root)) (string_bytes l.lines) l.faults (to_come l.walk)
