use Rattle.gltf_schema.proofs.Placed.{at_refused}
use Rattle.gltf_schema.proofs.OnePlace.{one_place}
use Rattle.gltf_schema.proofs.laws.values_are_refused_at_one_place.Goals as goal

pub returns-clause-refused : goal.returns-clause-refused
returns-clause-refused c kind d steps h = at_refused steps kind d h

pub returns-clause-unique : goal.returns-clause-unique
returns-clause-unique c kind d steps others h k = one_place steps others kind d h k
