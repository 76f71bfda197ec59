-- The list that was put in place has the item.
use Rattle.std.proofs.Common.{◌≡◌, refl, subst, arith}
use Rattle.gltf_base.specs.Indexes.{index_number}
use Rattle.gltf_root.specs.Lists.{is_there}
use Rattle.gltf_root.specs.Root.{root_tree}
use Rattle.gltf_validation.specs.Replaced.{IsSwapped}
use Rattle.gltf_validation.proofs.Replacing.{lent_there, not_there, put_itself, swapped}
use Rattle.gltf_validation.proofs.replace.swap_in.Goals as goal

pub returns-in-Some : goal.returns-in-Some
returns-in-Some g c =
    let named = g.T.Listed.list in
    let old = c.args.root.now in
    let list = c.swap_at.new.list in
    let new = g.T.RootItem.put list old in
    let there = lent_there c.list_of_mut.result c.in-Some.list (is_there named (root_tree old)) c.in-Some.is c.list_of_mut.ensures.missing in
    let put = g.met.T.RootItem.put_replaces_list old list there in
    subst (λ n. IsSwapped named g.T.RootItem.tree n c.args.item (g.T.RootItem.items old) (root_tree old) c.swap_at.result (g.T.RootItem.items new) (root_tree new)) c.value.ensures
    (swapped g.T.RootItem.tree named c.value.result c.args.item (g.T.RootItem.items old) c.in-Some.list.now.items list.items (g.T.RootItem.items new) c.swap_at.result (root_tree old) (root_tree new)
    there (g.met.T.RootItem.tree_lists_items old) (put_itself old named there) c.in-Some.ensures.lent c.swap_at.ensures put.0 put.1)

pub returns-in-None : goal.returns-in-None
returns-in-None g c =
    let named = g.T.Listed.list in
    let old = c.args.root.now in
    let none = not_there g.T.RootItem.tree named (root_tree old) (g.T.RootItem.items old) (c.list_of_mut.ensures.missing.0 c.in-None.is) (g.met.T.RootItem.tree_lists_items old) in
    (omega (arith, none), refl, refl)
