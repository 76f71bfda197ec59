use Rattle.gltf_findings_codes.proofs.Repeated.{repeats}
use Rattle.gltf_findings_codes.proofs.laws.repeats_have_an_equal_one_before.Goals as goal

pub returns : goal.returns
returns c = repeats
