-- The value is quiet if the caller's argument is true.
use Rattle.gltf_validation_objects.proofs.look.LookEventBuilder.enter.Goals as goal

pub returns : goal.returns
returns g c move e = c.quiet_if.ensures _ _ move c.requires e
