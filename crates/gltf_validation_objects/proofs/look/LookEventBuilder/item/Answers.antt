-- The value is quiet if the look returns true.
use Rattle.gltf_validation_objects.proofs.look.LookEventBuilder.item.Goals as goal

pub returns : goal.returns
returns g c move e = c.quiet_if.ensures _ _ move c.is_quiet.ensures e
