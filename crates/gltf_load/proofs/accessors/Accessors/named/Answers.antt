use Rattle.std.proofs.Common.{refl}
use Rattle.gltf_load.proofs.accessors.Accessors.named.Goals as goal

pub returns-in-None-clause-none : goal.returns-in-None-clause-none
returns-in-None-clause-none c = (refl, c.data.ensures.none c.in-None.is)
