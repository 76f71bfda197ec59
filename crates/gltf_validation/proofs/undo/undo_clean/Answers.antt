-- What has indexes into the list is looked at without the item, which is put back if there is a fault.
use Rattle.std.proofs.Common.{◌≡◌, [], ◌∷◌, ◌++◌, None, map, sym, ◌∙◌, ap, subst, arith}
use Rattle.std.proofs.lemmas.Grind.{common_steps}
use Rattle.std.specs.List.{last_or}
use Rattle.gltf_schema.specs.Tree.{Tree, object, trees}
use Rattle.gltf_validation_rules.specs.Report.{first_fault_of}
use Rattle.gltf_root.specs.Root.{root_tree}
use Rattle.gltf_root.specs.declared.root.mark.Mark.TheVariants.{Listed}
use Rattle.gltf_root.proofs.Undoing.{last_or_pop}
use Rattle.gltf_validation_rules.specs.Context.{rules_of}
use Rattle.gltf_validation_rules.specs.Reports.{document_reports}
use Rattle.gltf_validation.specs.Clean.{IsClean}
use Rattle.gltf_validation.proofs.Sinking.{no_first_fault}
use Rattle.gltf_validation.specs.Indexing.{reports_into}
use Rattle.gltf_validation.proofs.ShorterDocuments.{shorter_document}
use Rattle.gltf_validation.proofs.TakingBack.{popped, pushed_back, put_back_last}
use Rattle.gltf_validation.proofs.undo.undo_clean.Goals as goal

pub returns-in-None : goal.returns-in-None
returns-in-None g c =
    let old = c.args.root.now in
    let items = (g.T.TopLevel.held old).items in
    let list = c.pop.new.self in
    let mid = g.T.TopLevel.put list old in
    let by = rules_of c.args.rules.now in
    let tree : g.row.T.Denot → Tree = λ x. object (g.T.Object.members x) (g.T.Object.unknown x) in
    let less : items ≡ list.items ++ c.in-Some.item ∷ [] = sym {b = items} (ap (λ l. l.items) c.list_in_mut.ensures.lent) ∙ c.in-Some.ensures.items in
    let gone = popped tree g.T.Listed.list items list.items c.in-Some.item (root_tree old) (root_tree mid)
    (g.met.T.TopLevel.tree_lists_items old) less (g.met.T.TopLevel.put_replaces_list old list).1 in
    let put = g.met.T.TopLevel.put_replaces_list old list in
    let whole = pushed_back tree g.T.Listed.list items list.items c.in-Some.item old (root_tree mid) (g.met.T.TopLevel.needs_no_extension (root_tree old) Listed).0
    (g.met.T.TopLevel.tree_lists_items old) (g.met.T.TopLevel.tree_lists_items mid ∙ ap (λ l. trees (map tree l.items)) put.0) put.1 less in
    let told = shorter_document by g.T.Listed.list (tree c.in-Some.item) mid g.met.T.TopLevelItem.is_own_list (subst (IsClean by) (sym whole) c.requires) in (
      ap (last_or None) less ∙ last_or_pop None list.items c.in-Some.item,
      subst (IsClean by) gone (told ∙ no_first_fault (reports_into by (root_tree mid) g.T.Listed.list) (sym c.in-None.ensures)),
      gone,
    )

pub returns-in-Ok : goal.returns-in-Ok
returns-in-Ok g c =
    let old = c.args.root.now in
    let items = (g.T.TopLevel.held old).items in
    let list = c.pop.new.self in
    let mid = g.T.TopLevel.put list old in
    let back = c.push.new.self in
    let given = c.list_in_mut-in-Some-fault_into in
    let by = rules_of c.args.rules.now in
    let tree : g.row.T.Denot → Tree = λ x. object (g.T.Object.members x) (g.T.Object.unknown x) in
    let put = g.met.T.TopLevel.put_replaces_list old list in
    let stands = g.met.T.TopLevel.tree_lists_items old in
    let less : items ≡ list.items ++ c.in-Some.item ∷ [] = sym {b = items} (ap (λ l. l.items) c.list_in_mut.ensures.lent) ∙ c.in-Some.ensures.items in
    let gone = popped tree g.T.Listed.list items list.items c.in-Some.item (root_tree old) (root_tree mid) stands less put.1 in
    let same : back.items ≡ items =
    c.in-Ok.ensures.items ∙ ap (λ l. l.items ++ c.in-Some.item ∷ []) (given.ensures.lent ∙ put.0) ∙ sym less in
    let whole = pushed_back tree g.T.Listed.list items list.items c.in-Some.item old (root_tree mid) (g.met.T.TopLevel.needs_no_extension (root_tree old) Listed).0
    stands (g.met.T.TopLevel.tree_lists_items mid ∙ ap (λ l. trees (map tree l.items)) put.0) put.1 less in
    let told = shorter_document by g.T.Listed.list (tree c.in-Some.item) mid g.met.T.TopLevelItem.is_own_list (subst (IsClean by) (sym whole) c.requires) in (
      ap (λ t. first_fault_of (document_reports by t)) (sym gone) ∙ (ap first_fault_of told ∙ sym c.in-Some-fault_into.ensures),
      put_back_last tree g.T.Listed.list items list.items back.items old (root_tree mid) (root_tree (g.T.TopLevel.put back mid))
          (g.met.T.TopLevel.needs_no_extension (root_tree old) Listed).0 stands put.1 (g.met.T.TopLevel.put_replaces_list mid back).1 same,
    )

-- the list has room for the item that it had
pub unreachable-requires : goal.unreachable-requires
unreachable-requires g c =
    let same = c.list_in_mut-in-Some-fault_into.ensures.lent ∙ (g.met.T.TopLevel.put_replaces_list c.args.root.now c.pop.new.self).0 in
    grind (arith, common_steps, same)
