-- Each finding leaves the rest to come.
use Rattle.std.proofs.Common.{◌++◌, map, arith}
use Rattle.gltf_findings_lines.specs.Located.{located}
use Rattle.gltf_findings_lines.specs.Sources.{unsaid_in}
use Rattle.gltf_findings_lines.proofs.Unsaid.{one_finding_more}
use Rattle.gltf_findings_lines.proofs.sources.add_document.Goals as goal

pub loop-finding-preserved : goal.loop-finding-preserved
loop-finding-preserved c = one_finding_more c.args.said.now (map located c.loop-finding.to.items) (map located c.add_unsaid.new.to.items) (map located c.args.to.now.items ++ unsaid_in c.args.said.now c.args.findings.now) c.args.findings.now c.loop-finding.finding-index _ c.loop-finding.invariant (omega arith) c.in_ok-add_unsaid.ensures
