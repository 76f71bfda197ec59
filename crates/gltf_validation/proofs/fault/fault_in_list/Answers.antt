-- The table has the reports of the list that its type has.
use Rattle.std.proofs.Common.{[], ◌∙◌, ap, Some, arith}
use Rattle.gltf_schema.specs.Fields.{list_tree}
use Rattle.gltf_schema.specs.Kind.{ListOf}
use Rattle.gltf_schema.specs.Tree.{Tree, list, object}
use Rattle.gltf_root.specs.Lists.{list_in}
use Rattle.gltf_root.specs.Pushed.{item_kind, list_steps}
use Rattle.gltf_root.specs.Root.{root_tree}
use Rattle.gltf_validation_rules.specs.Context.{rules_of, under}
use Rattle.gltf_validation.proofs.Pushing.{reported_by_table}
use Rattle.gltf_validation.proofs.TakingBack.{list_same}
use Rattle.gltf_validation.proofs.fault.fault_in_list.Goals as goal

pub first_fault-requires : goal.first_fault-requires
first_fault-requires g c = omega (arith, g.met.T.Object.height_bounds_kind.1)

pub returns : goal.returns
returns g c =
    let seen = g.T.Visitable in
    let root = c.args.root.now in
    let named = g.T.Listed.list in
    let items = c.list_in.result.now.items in
    let tree : g.row.T.Denot → Tree = λ x. object (g.T.Object.members x) (g.T.Object.unknown x) in
    let kinds = ap (λ k. Some (ListOf k)) (g.met.T.SchemaObject.same_kind ∙ g.met.T.TopLevel.kind_is_item_kind) in
    let same = list_same seen.tree tree items (g.T.TopLevel.held root).items (list_in named (root_tree root)) g.met.T.SchemaObject.same_tree
    (ap (λ l. l.items) c.list_in.ensures) (g.met.T.TopLevel.tree_lists_items root) in
    c.first_fault.ensures ∙ reported_by_table (Some (ListOf seen.kind)) (ListOf (item_kind named)) (list_tree seen.tree items) (list (list_in named (root_tree root))) (λ context base. [])
    (under (rules_of c.args.rules.now) (root_tree root)) (list_steps named) kinds same
