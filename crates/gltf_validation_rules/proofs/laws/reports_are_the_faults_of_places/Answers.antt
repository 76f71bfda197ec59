use Rattle.gltf_validation_rules.proofs.ByPlaces.{reports_are_by_places}
use Rattle.gltf_validation_rules.proofs.laws.reports_are_the_faults_of_places.Goals as goal

pub returns : goal.returns
returns c rules kind tree root base = reports_are_by_places rules kind tree root base
