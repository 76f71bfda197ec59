use Rattle.std.proofs.Common.{◌≡◌, drop}
use Rattle.gltf_findings_codes.specs.Codes.{severity_name}
use Rattle.gltf_findings_lines.specs.Named.{named_in}
use Rattle.gltf_findings_lines.proofs.codes.severity_in.Given as goal

-- those that are left decide
abbrev pub invariant-loop-severity : goal.invariant-loop-severity
invariant-loop-severity l = named_in severity_name (drop l.severity-index l.severities) l.name ≡ named_in severity_name l.severities l.name
