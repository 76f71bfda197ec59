use Rattle.std.proofs.Common.{◌≡◌, drop}
use Rattle.gltf_findings_codes.specs.Codes.{code_name, code_severity}
use Rattle.gltf_findings_lines.specs.Chosen.{severity_by}
use Rattle.gltf_findings_lines.proofs.choices.Choices.severity.Given as goal

-- the choices that are left give the severity
abbrev pub invariant-loop-leveled : goal.invariant-loop-leveled
invariant-loop-leveled l = severity_by (drop l.leveled-index l.self.severities.now) (code_name l.code) l.severity
    ≡ severity_by l.self.severities.now (code_name l.code) (code_severity l.code)
