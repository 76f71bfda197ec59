-- The list that a document holds is the list of its tree.
use Rattle.std.proofs.Common.{◌∙◌, ap, sym, slice_get}
use Rattle.gltf_root.specs.Root.{root_tree}
use Rattle.gltf_validation_rules.proofs.Resolving.{count_in-items, index_there, index_past}
use Rattle.gltf_validation_rules.proofs.indexes.index_fault.Goals as goal

pub returns-in-Some : goal.returns-in-Some
returns-in-Some g c =
    let items = g.P.Item.RootItem.items c.args.root.now in
    let count = count_in-items g.P.Item.Listed.list (root_tree c.args.root.now) _ items (g.met.P.Item.RootItem.tree_lists_items c.args.root.now) in
    λ base. sym (index_there items _ _ c.in-Some.field-0.now count
    (c.in-Some.ensures ∙ ap (slice_get items) (c.new.ensures ∙ c.number.ensures)) base)

pub returns-in-None : goal.returns-in-None
returns-in-None g c =
    let items = g.P.Item.RootItem.items c.args.root.now in
    let count = count_in-items g.P.Item.Listed.list (root_tree c.args.root.now) _ items (g.met.P.Item.RootItem.tree_lists_items c.args.root.now) in
    λ base. sym (index_past items _ _ count
    (c.in-None.ensures ∙ ap (slice_get items) (c.new.ensures ∙ c.number.ensures)) base)
