-- The texts of the worked paths are computed.
use Rattle.std.proofs.Common.{refl}
use Rattle.std.specs.Fmt.{digits}
use Rattle.gltf_base.proofs.laws.worked_paths.Goals as goal

pub returns : goal.returns
unfolding digits
returns c = (refl, refl, refl)
