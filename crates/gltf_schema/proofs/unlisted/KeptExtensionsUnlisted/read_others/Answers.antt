use Rattle.gltf_schema.proofs.RowByRow.{all_kept, read_none}
use Rattle.gltf_schema.proofs.unlisted.KeptExtensionsUnlisted.read_others.Goals as goal

pub returns : goal.returns
returns g c = all_kept read_none c.others.ensures
