use Rattle.gltf_root.proofs.TakenBack.{taken_back}
use Rattle.gltf_root.proofs.laws.pushes_are_taken_back.Goals as goal

pub returns : goal.returns
returns c r named x = taken_back r named x
