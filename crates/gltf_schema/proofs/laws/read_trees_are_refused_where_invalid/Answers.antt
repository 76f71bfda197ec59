use Rattle.gltf_schema.proofs.RefusedWhereInvalid.{refused_where_invalid}
use Rattle.gltf_schema.proofs.laws.read_trees_are_refused_where_invalid.Goals as goal

pub returns : goal.returns
returns c kind d t sound h = refused_where_invalid kind d t sound h
