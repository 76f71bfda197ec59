use Rattle.std.proofs.Common.{◌≡◌, ◌++◌, drop, map}
use Rattle.gltf_findings_lines.specs.Located.{located}
use Rattle.gltf_findings_lines.specs.Sources.{unsaid_in}
use Rattle.gltf_findings_lines.proofs.sources.add_document.Given as goal

-- the findings that are left give all
abbrev pub invariant-loop-finding : goal.invariant-loop-finding
invariant-loop-finding l = map located l.to.items ++ unsaid_in l.said (drop l.finding-index l.findings) ≡ map located l.fn.to.items ++ unsaid_in l.said l.findings
