-- What replacing leaves has no report.
use Rattle.gltf_validation_rules.specs.Context.{rules_of}
use Rattle.gltf_base.specs.Indexes.{index_number}
use Rattle.gltf_root.specs.Root.{root_tree}
use Rattle.gltf_validation.proofs.Replacing.{stays_clean}
use Rattle.gltf_validation.proofs.clean.Clean.replace.Goals as goal

pub invariant_of-self : goal.invariant_of-self
invariant_of-self g c =
    let held = c.args.self.now in
    record {
      is_clean = stays_clean (rules_of held.rules) g.T.Listed.list (index_number c.args.index) c.args.item (g.T.RootItem.tree c.args.item) (root_tree held.root)
          c.replace_clean.result (root_tree c.replace_clean.new.root) held.is_clean c.replace_clean.ensures.replaced;
    }
