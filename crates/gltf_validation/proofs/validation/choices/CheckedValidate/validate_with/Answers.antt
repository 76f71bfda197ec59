-- The fault of the choice is reported.
use Rattle.std.proofs.Common.{sym, ◌∙◌}
use Rattle.gltf_base.specs.Spelling.{by_number}
use Rattle.gltf_root.specs.Root.{root_tree}
use Rattle.gltf_validation_rules.specs.Context.{rules_of, under}
use Rattle.gltf_validation.proofs.ByTable.{choice-checked}
use Rattle.gltf_validation_rules.proofs.Walks.{walked_same}
use Rattle.gltf_validation.proofs.validation.choices.CheckedValidate.validate_with.Goals as goal

pub returns-clause-walked : goal.returns-clause-walked
returns-clause-walked g c =
    walked_same (λ base. sym (choice-checked (λ x. by_number 0) (under (rules_of c.args._rules.now) (root_tree c.args._root.now)) c.args.self.now base) ∙ sym (c.choice_fault.ensures (λ x. by_number 0) base)) c.tell.ensures
