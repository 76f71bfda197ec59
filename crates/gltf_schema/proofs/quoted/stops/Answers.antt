use Rattle.gltf_schema.proofs.Plains.{mask_is}
use Rattle.gltf_schema.proofs.quoted.stops.Goals as goal

pub returns : goal.returns
returns c = mask_is c.args.bytes c.fits-bytes.0
