use Rattle.std.proofs.Common.{◌≡◌, drop}
use Rattle.gltf_findings_codes.specs.Codes.{code_name}
use Rattle.gltf_findings_lines.specs.Named.{named_in}
use Rattle.gltf_findings_lines.proofs.codes.code_in.Given as goal

-- those that are left decide
abbrev pub invariant-loop-code : goal.invariant-loop-code
invariant-loop-code l = named_in code_name (drop l.code-index l.codes) l.name ≡ named_in code_name l.codes l.name
