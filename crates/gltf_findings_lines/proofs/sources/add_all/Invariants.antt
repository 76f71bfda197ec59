use Rattle.std.proofs.Common.{◌≡◌, ◌++◌, drop, map}
use Rattle.gltf_findings_lines.specs.Located.{located}
use Rattle.gltf_findings_lines.specs.Sources.{located_finding}
use Rattle.gltf_findings_lines.proofs.sources.add_all.Given as goal

-- the findings that are left give all
abbrev pub invariant-loop-finding : goal.invariant-loop-finding
invariant-loop-finding l = map located l.to.items ++ map located_finding (drop l.finding-index l.findings) ≡ map located l.fn.to.items ++ map located_finding l.findings
