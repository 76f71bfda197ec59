-- The worked pointers are computed.
use Rattle.std.proofs.Common.{refl}
use Rattle.std.specs.Fmt.{digits}
use Rattle.gltf_base.proofs.laws.worked_pointers.Goals as goal

pub returns : goal.returns
unfolding digits
returns c = (refl, refl)
