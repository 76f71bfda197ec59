-- The names that are left give all findings.
use Rattle.std.proofs.Common.{◌≡◌, ◌++◌, drop}
use Rattle.gltf_findings_codes.specs.Found.{findings_from}
use Rattle.gltf_findings.specs.ExtensionNames.{required_findings}
use Rattle.gltf_findings.proofs.extensions.add_required.Given as goal

abbrev pub invariant-loop-number : goal.invariant-loop-number
invariant-loop-number l = l.to.items ++ findings_from (required_findings l.used) l.number (drop l.number l.required) ≡ l.fn.to.items ++ findings_from (required_findings l.used) 0 l.required
