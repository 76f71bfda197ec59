-- A turn prints the line of its report, or is past the most; behind the last one comes the end line, or all were printed.
use Rattle.std.proofs.Common.{◌∷◌, ◌∙◌, ap, sym, arith, string_bytes}
use Rattle.gltf_validation_rules.specs.Report.{report}
use Rattle.gltf_validation_walk.specs.ToCome.{to_come}
use Rattle.gltf_report_lines.proofs.Printed.{IsPrinted-more, IsPrinted-past, IsPrinted-cut, IsPrinted-whole}
use Rattle.gltf_report_lines.proofs.file_lines.found_in.Goals as goal
use Rattle.gltf_report_lines.proofs.file_lines.found_in.Goals.{then-faults-options+in_ok-push_report, else-faults-options, then-faults-options-2+in_ok-push_rest, else-faults-options-2}

pub loop-error-preserved : goal.loop-error-preserved
loop-error-preserved c =
    elim c.if-faults-options.branch [
      | then-faults-options+in_ok-push_report w ↦ IsPrinted-more _ _ _ _ c.loop-error.invariant (omega arith) (omega arith)
          (c.in-Some.ensures ∙ ap (λ p. report p c.in-Some.error ∷ to_come c.next_report.new.self) (sym w.steps-steps.ensures))
          (ap string_bytes w.lines-is ∙ w.in_ok-push_report.ensures) c.saturating_add-faults.ensures
      | else-faults-options w ↦ IsPrinted-past _ _ _ _ c.loop-error.invariant (omega arith) (omega arith)
          c.in-Some.ensures (ap string_bytes w.lines-is) c.saturating_add-faults.ensures
    ]

pub returns-clause-lines : goal.returns-clause-lines
returns-clause-lines c =
    elim c.if-faults-options-2.branch [
      | then-faults-options-2+in_ok-push_rest w ↦ IsPrinted-cut _ c.loop-error.invariant (omega arith) (omega arith)
          c.in_default.ensures.0 (ap string_bytes w.lines-is ∙ w.in_ok-push_rest.ensures)
      | else-faults-options-2 w ↦ IsPrinted-whole _ c.loop-error.invariant (omega arith) (omega arith)
          c.in_default.ensures.0 (ap string_bytes w.lines-is)
    ]
