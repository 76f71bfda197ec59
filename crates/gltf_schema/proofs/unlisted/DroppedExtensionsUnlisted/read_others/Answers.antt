use Rattle.gltf_schema.proofs.RowByRow.{all_read, read_none}
use Rattle.gltf_schema.proofs.unlisted.DroppedExtensionsUnlisted.read_others.Goals as goal

pub returns : goal.returns
returns g c = all_read read_none
