use Rattle.std.proofs.Common.{◌≡◌, ◌++◌, drop}
use Rattle.gltf_findings_files.specs.Found.{found}
use Rattle.gltf_findings_files.proofs.finding.add_found.Given as goal

-- the rules that are left give all findings
abbrev pub invariant-loop-rule : goal.invariant-loop-rule
invariant-loop-rule l = l.to.items ++ found (drop l.rule-index l.rules) ≡ l.fn.to.items ++ found l.rules
