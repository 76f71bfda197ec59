use Rattle.gltf_validation_rules.proofs.PointerText.{pointer_finds}
use Rattle.gltf_validation_rules.proofs.laws.further.pointers_find_what_their_steps_lead_to.Goals as goal

pub returns : goal.returns
returns c steps d e small h = pointer_finds steps d e small h
