use Rattle.std.proofs.Common.{refl}
use Rattle.gltf_schema.proofs.OneRowPlaced.{value_read, member_missing}
use Rattle.gltf_schema.proofs.placing.PlacingReadRows.required.Goals as goal

pub returns-in-Some : goal.returns-in-Some
returns-in-Some g c = value_read c.in-Some.ensures c.decode.ensures refl

pub returns-in-None : goal.returns-in-None
returns-in-None g c = member_missing c.in-None.ensures c.refuse.ensures
