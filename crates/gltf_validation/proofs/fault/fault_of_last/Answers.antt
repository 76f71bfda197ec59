-- The table has the reports of the item that its type has.
use Rattle.std.proofs.Common.{[], ◌∙◌, ap, Some, arith}
use Rattle.gltf_root.specs.Pushed.{item_kind}
use Rattle.gltf_root.specs.Root.{root_tree}
use Rattle.gltf_validation_rules.specs.Context.{rules_of, under}
use Rattle.gltf_validation.proofs.Pushing.{is_last, reported_by_table}
use Rattle.gltf_validation.proofs.fault.fault_of_last.Goals as goal

pub first_fault-requires : goal.first_fault-requires
first_fault-requires g c = omega (arith, g.met.T.Object.height_bounds_kind.1)

pub returns-in-Some : goal.returns-in-Some
returns-in-Some g c = λ before item base whole.
    let seen = g.T.Visitable in
    let x = c.in-Some.item.now in
    let same = is_last before c.list_of.result.now item x (c.list_of.ensures ∙ whole) c.in-Some.ensures.value in
    c.first_fault.ensures ∙ reported_by_table (Some seen.kind) (item_kind g.T.Listed.list) (seen.tree x) (g.T.RootItem.tree item) (λ context base. [])
    (under (rules_of c.args.rules.now) (root_tree c.args.root.now)) base (ap Some g.met.T.Item.kind_is_item_kind) (g.met.T.Item.trees_are_equal x ∙ ap g.T.RootItem.tree same)
