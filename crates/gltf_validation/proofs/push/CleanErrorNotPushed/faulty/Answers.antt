-- The item that is taken back is the faulty one.
use Rattle.std.proofs.Common.{refl}
use Rattle.gltf_validation_rules.specs.Context.{rules_of}
use Rattle.gltf_root.specs.Root.{root_tree}
use Rattle.gltf_validation.proofs.Reporting.{is_faulty_last}
use Rattle.gltf_validation.proofs.push.CleanErrorNotPushed.faulty.Goals as goal

pub returns-clause-refused : goal.returns-clause-refused
returns-clause-refused g c = λ item before faulty. (
  faulty.1,
  faulty.2,
  is_faulty_last (rules_of c.args._rules.now) g.T.Listed.list item (g.T.RootItem.tree item) before (g.T.RootItem.items c.args.root.now) (root_tree c.args.root.now) _ _ faulty c.taken_back.ensures.item,
  refl,
)
