use Rattle.gltf_schema.proofs.WrittenWhereValid.{of_kind_refused_where_invalid}
use Rattle.gltf_schema.proofs.laws.trees_of_a_kind_are_refused_where_invalid.Goals as goal

pub returns : goal.returns
returns c kind t of_kind = of_kind_refused_where_invalid kind t of_kind
