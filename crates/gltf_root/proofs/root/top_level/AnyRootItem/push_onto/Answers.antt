-- The list that was put in place has the item at its end.
use Rattle.std.proofs.Common.{[], ◌∷◌, ◌++◌, vec_len, ◌∙◌, ap}
use Rattle.std.proofs.lemmas.Result.{IfOk-weaker}
use Rattle.gltf_schema.specs.Tree.{Tree, object}
use Rattle.gltf_root.specs.Root.{root_tree}
use Rattle.gltf_root.proofs.TopLevel.{one_more}
use Rattle.gltf_root.proofs.root.top_level.AnyRootItem.push_onto.Goals as goal

pub returns-clause-pushed : goal.returns-clause-pushed
returns-clause-pushed g c =
    let old = c.args.root.now in
    let new = c.push.new.list in
    let held = c.list_in_mut.ensures.lent in
    let tree : g.row.T.Denot → Tree = λ x. object (g.T.Object.members x) (g.T.Object.unknown x) in
    IfOk-weaker c.push.result _ _ (λ index h. (
      h.0 ∙ ap vec_len held ∙ (g.T.TopLevel.held old).ok.0,
      one_more tree g.T.Listed.list (root_tree old) (root_tree (g.T.TopLevel.put new old)) (g.T.TopLevel.held old).items new.items c.args.item
          (g.met.T.TopLevel.tree_lists_items old) (g.met.T.TopLevel.put_replaces_list old new).1 (h.1 ∙ ap (λ list. list.items ++ c.args.item ∷ []) held),
    )) c.push.ensures.pushed
