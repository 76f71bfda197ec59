use Rattle.gltf_validation_rules.proofs.PlainPushes.{pushed_plain}
use Rattle.gltf_validation_rules.proofs.laws.plain.pushes_leave_documents_plain.Goals as goal

pub returns : goal.returns
returns c r named x plain new = pushed_plain named x r plain new
