use Rattle.gltf_schema.proofs.LastNames.{last_names}
use Rattle.gltf_schema.proofs.laws.keys_have_the_indexes_of_their_last_names.Goals as goal

pub returns-clause-last : goal.returns-clause-last
returns-clause-last c named ms es h key = last_names named ms es h key
