use Rattle.std.proofs.Common.{rules, ◌≡◌, ◌++◌, OnOk, subst}
use Rattle.gltf_findings_codes.specs.Found.{findings_from}
use Rattle.gltf_findings_rules.specs.Nodes.{node_findings}
use Rattle.gltf_findings_rules.specs.Placed.{placed_findings as placed_node_findings}
use Rattle.gltf_findings.specs.Findings.{counts_of}
use Rattle.gltf_findings.proofs.findings.add_nodes.Goals as goal

pub returns : goal.returns
returns c =
    subst (λ meshes. OnOk c.add_placed_nodes.result (c.add_placed_nodes.new.to.items ≡ c.args.to.now.items ++ findings_from (node_findings (counts_of c.args.root.now)) 0 c.args.root.now.nodes.items ++ findings_from (placed_node_findings meshes c.args.children.now c.args.joints.now) 0 c.args.root.now.nodes.items))
    c.deref-3.ensures.value (search rules)
