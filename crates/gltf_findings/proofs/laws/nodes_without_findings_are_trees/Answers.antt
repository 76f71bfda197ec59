use Rattle.gltf_findings.proofs.Lawful.{are_trees}
use Rattle.gltf_findings.proofs.laws.nodes_without_findings_are_trees.Goals as goal

pub returns : goal.returns
returns c = are_trees
