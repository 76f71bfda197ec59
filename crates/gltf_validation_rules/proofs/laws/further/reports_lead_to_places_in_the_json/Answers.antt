-- A plain document is what is read of the JSON that it is written as.
use Rattle.gltf_schema.proofs.ReadBack.{read_back}
use Rattle.gltf_schema.specs.Tree.{absent}
use Rattle.gltf_root.specs.Root.{root_kind}
use Rattle.gltf_root.specs.RootDerived.{root_sound}
use Rattle.gltf_validation_rules.proofs.Pointing.{all_lead}
use Rattle.gltf_validation_rules.proofs.PointingRoot.{root_fits}
use Rattle.gltf_validation_rules.proofs.laws.further.reports_lead_to_places_in_the_json.Goals as goal

pub returns-clause-read : goal.returns-clause-read
returns-clause-read c d t context h = all_lead root_kind d t root_fits h context absent

pub returns-clause-written : goal.returns-clause-written
returns-clause-written c d t context plain h = all_lead root_kind d t root_fits (read_back root_kind t d root_sound plain h) context absent
