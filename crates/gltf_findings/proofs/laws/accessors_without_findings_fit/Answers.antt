use Rattle.gltf_findings.proofs.Lawful.{lies_in_view}
use Rattle.gltf_findings.proofs.laws.accessors_without_findings_fit.Goals as goal

pub returns : goal.returns
returns c = lies_in_view
