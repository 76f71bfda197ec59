-- The item that is taken back is the faulty one, and the first report of the document is that of the item.
use Rattle.std.proofs.Common.{refl, sym, ◌∙◌, ap}
use Rattle.gltf_validation_rules.specs.Context.{rules_of}
use Rattle.gltf_validation_rules.specs.Reports.{document_reports}
use Rattle.gltf_root.specs.Root.{root_tree}
use Rattle.gltf_validation.specs.FirstReport.{first_report}
use Rattle.gltf_validation.proofs.FirstReports.{one_found}
use Rattle.gltf_validation.proofs.Reporting.{is_faulty_last}
use Rattle.gltf_validation.proofs.reported.RefusedNotPushed.faulty.Goals as goal

pub returns-in-Ok-Some-clause-refused : goal.returns-in-Ok-Some-clause-refused
returns-in-Ok-Some-clause-refused g c = λ item before faulty.
    let by = rules_of c.args.rules.now in
    let old = root_tree c.args.root.now in (
      faulty.1,
      ap first_report (sym faulty.3) ∙ one_found c.in-Ok-Some.field-0 c.in-Ok-Some.report (document_reports by old) c.in-Ok-Some.field-0-is c.in-Ok-Some.ensures.found,
      is_faulty_last by g.T.Listed.list item (g.T.RootItem.tree item) before (g.T.RootItem.items c.args.root.now) old _ _ faulty c.taken_back-item.ensures.item,
      refl,
    )

pub returns-in-Err-clause-refused : goal.returns-in-Err-clause-refused
returns-in-Err-clause-refused g c = λ item before faulty. (
  faulty.1,
  is_faulty_last (rules_of c.args.rules.now) g.T.Listed.list item (g.T.RootItem.tree item) before (g.T.RootItem.items c.args.root.now) (root_tree c.args.root.now) _ _ faulty c.taken_back-item.ensures.item,
  refl,
)
