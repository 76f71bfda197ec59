use Rattle.gltf_base.proofs.Codes.{same_code}
use Rattle.gltf_base.proofs.laws.codes_tell_errors_apart.Goals as goal

pub returns : goal.returns
returns c = same_code
