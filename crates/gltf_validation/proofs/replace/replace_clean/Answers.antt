-- The whole document is looked at, and the old item is put back if there is a report.
use Rattle.std.proofs.Common.{◌≤◌, sym, ◌∙◌, ap, subst}
use Rattle.gltf_base.specs.Indexes.{index_number}
use Rattle.gltf_root.specs.Root.{root_tree}
use Rattle.gltf_validation_rules.specs.Context.{rules_of}
use Rattle.gltf_validation_rules.specs.Reports.{document_reports}
use Rattle.gltf_validation_rules.proofs.Resolving.{count_in-items}
use Rattle.gltf_validation.specs.Clean.{IsClean}
use Rattle.gltf_validation.specs.FirstReport.{first_report}
use Rattle.gltf_validation.proofs.FirstReports.{none_found, one_found}
use Rattle.gltf_validation.proofs.Replacing.{swapped_back, was_there}
use Rattle.gltf_validation.proofs.replace.replace_clean.Goals as goal

pub returns-in-Ok-None-clause-replaced : goal.returns-in-Ok-None-clause-replaced
returns-in-Ok-None-clause-replaced g c =
    let old = c.args.root.now in
    let by = rules_of c.args.rules.now in
    let put = c.in-Ok.ensures in (
      was_there g.T.RootItem.tree g.T.Listed.list (index_number c.args.index) c.in-Ok.old (g.T.RootItem.items old) (root_tree old) (g.met.T.RootItem.tree_lists_items old) put.0,
      subst (IsClean by) put.3 (none_found c.in-Ok-None.field-0 (document_reports by (root_tree c.swap_in.new.root)) c.in-Ok-None.field-0-is c.in-Ok-None.ensures.found),
      put.3,
    )

pub returns-in-Ok-Some-clause-replaced : goal.returns-in-Ok-Some-clause-replaced
returns-in-Ok-Some-clause-replaced g c =
    let old = c.args.root.now in
    let mid = c.swap_in.new.root in
    let by = rules_of c.args.rules.now in
    let found = one_found c.in-Ok-Some.field-0 c.in-Ok-Some.report (document_reports by (root_tree mid)) c.in-Ok-Some.field-0-is c.in-Ok-Some.ensures.found in
    let back = swapped_back g.T.RootItem.tree g.T.Listed.list (index_number c.args.index) c.args.item c.in-Ok.old c.swap_back.result (g.T.RootItem.items old) (g.T.RootItem.items mid) old (root_tree mid)
    (root_tree c.swap_back.new.root) (g.met.T.RootItem.tree_lists_items old) c.in-Ok.ensures c.swap_back.ensures.item c.swap_back.ensures.document in
    (back.0, ap (λ t. first_report (document_reports by t)) (sym back.1) ∙ found, back.2, back.3)

pub returns-in-Err-first_report-clause-replaced : goal.returns-in-Err-first_report-clause-replaced
returns-in-Err-first_report-clause-replaced g c =
    let old = c.args.root.now in
    let mid = c.swap_in.new.root in
    let given = c.swap_back-in-Err-first_report in
    let back = swapped_back g.T.RootItem.tree g.T.Listed.list (index_number c.args.index) c.args.item c.in-Ok.old given.result (g.T.RootItem.items old) (g.T.RootItem.items mid) old (root_tree mid)
    (root_tree given.new.root) (g.met.T.RootItem.tree_lists_items old) c.in-Ok.ensures given.ensures.item given.ensures.document in
    (back.0, λ clean. c.in-Err-first_report.ensures.faulty (subst (IsClean (rules_of c.args.rules.now)) (sym back.1) clean), back.2, back.3)

pub returns-in-Err-clause-replaced : goal.returns-in-Err-clause-replaced
returns-in-Err-clause-replaced g c =
    let old = c.args.root.now in
    let count = count_in-items g.T.Listed.list (root_tree old) g.T.RootItem.tree (g.T.RootItem.items old) (g.met.T.RootItem.tree_lists_items old) in
    let left = c.in-Err.ensures in
    (subst (λ m. m ≤ index_number c.args.index) (sym count) left.0, left.1, left.2)
