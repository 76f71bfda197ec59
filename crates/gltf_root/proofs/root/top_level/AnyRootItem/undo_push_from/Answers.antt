-- The list that was put in place lacks the last item.
use Rattle.std.proofs.Common.{sym, ◌∙◌, ap}
use Rattle.gltf_schema.specs.Tree.{Tree, object}
use Rattle.gltf_root.specs.Root.{root_tree}
use Rattle.gltf_root.proofs.TopLevel.{taken_out}
use Rattle.gltf_root.proofs.root.top_level.AnyRootItem.undo_push_from.Goals as goal

pub returns-clause-taken : goal.returns-clause-taken
returns-clause-taken g c =
    let old = c.args.root.now in
    let new = c.pop.new.self in
    let tree : g.row.T.Denot → Tree = λ x. object (g.T.Object.members x) (g.T.Object.unknown x) in
    taken_out tree g.T.Listed.list c.args._mark (root_tree old) (root_tree (g.T.TopLevel.put new old)) (g.T.TopLevel.held old).items new.items c.pop.result
    (g.met.T.TopLevel.tree_lists_items old) (g.met.T.TopLevel.put_replaces_list old new).1 (sym (ap (λ list. list.items) c.list_in_mut.ensures.lent) ∙ c.pop.ensures.items)
    (g.met.T.TopLevel.needs_no_extension (root_tree old) c.args._mark).2
