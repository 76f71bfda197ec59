-- The items by the table, where it has their kind.
use Rattle.gltf_root.specs.Root.{root_tree}
use Rattle.gltf_validation_rules.specs.Context.{rules_of, under}
use Rattle.gltf_validation.proofs.ByTable.{list-each}
use Rattle.gltf_validation_rules.proofs.Walks.{walked_same}
use Rattle.gltf_validation.proofs.validation.composed.VecValidate.validate_with.Goals as goal

pub returns-clause-walked : goal.returns-clause-walked
returns-clause-walked g c =
    let v = g.T.Validate in
    walked_same (list-each v.kind v.tree v.own (under (rules_of c.args.rules.now) (root_tree c.args.root.now)) c.args.self.now.items) c.each_item.ensures
