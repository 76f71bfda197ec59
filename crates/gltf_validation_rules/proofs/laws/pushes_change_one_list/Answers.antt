use Rattle.gltf_validation_rules.proofs.LongerLists.{grown, others_kept, members_kept}
use Rattle.gltf_validation_rules.proofs.laws.pushes_change_one_list.Goals as goal

pub returns-clause-grown : goal.returns-clause-grown
returns-clause-grown c r named x = grown named x r

pub returns-clause-others : goal.returns-clause-others
returns-clause-others c r named other x apart = others_kept other named x r apart

pub returns-clause-members : goal.returns-clause-members
returns-clause-members c r named n x apart = members_kept named n x r apart
