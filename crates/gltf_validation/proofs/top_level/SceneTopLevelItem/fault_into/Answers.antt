-- The table has the reports of the index that its type has.
use Rattle.std.proofs.Common.{[], ◌∷◌, ◌∙◌, codes, Some, refl}
use Rattle.gltf_base.specs.Lists.{ListName}
use Rattle.gltf_base.specs.Steps.{field}
use Rattle.gltf_schema.specs.Fields.{index_tree}
use Rattle.gltf_schema.specs.Kind.{IndexInto}
use Rattle.gltf_schema.specs.Tree.{tree_or_absent, members_in}
use Rattle.gltf_root.specs.Named.{member_named}
use Rattle.gltf_root.specs.Root.{root_members, root_rows, root_tree}
use Rattle.gltf_validation_rules.specs.Context.{rules_of, under}
use Rattle.gltf_validation.proofs.Pushing.{reported_by_table}
use Rattle.gltf_validation.proofs.top_level.SceneTopLevelItem.fault_into.Goals as goal

pub returns : goal.returns
unfolding root_rows root_members
returns c =
    let root = c.args.root.now in
    c.first_fault.ensures ∙ reported_by_table (Some (IndexInto ListName.scenes)) (IndexInto ListName.scenes) (tree_or_absent index_tree root.scene) (member_named (codes "scene") root_rows (members_in (root_tree root))) (λ context base. [])
    (under (rules_of c.args.rules.now) (root_tree root)) (field (codes "scene") ∷ []) refl refl
