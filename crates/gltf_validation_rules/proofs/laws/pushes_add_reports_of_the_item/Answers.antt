use Rattle.gltf_validation_rules.proofs.SplitByPlace.{parted_by_place}
use Rattle.gltf_validation_rules.proofs.PushesOnto.{inserted}
use Rattle.gltf_validation_rules.proofs.laws.pushes_add_reports_of_the_item.Goals as goal

pub returns-clause-of_item : goal.returns-clause-of_item
returns-clause-of_item c rules r named x off = (parted_by_place rules named x r off).0

pub returns-clause-of_others : goal.returns-clause-of_others
returns-clause-of_others c rules r named x off = (parted_by_place rules named x r off).1

pub returns-clause-together : goal.returns-clause-together
returns-clause-together c rules r named x off = inserted rules named x r off
