use Rattle.std.proofs.Common.{◌≡◌, ◌++◌, drop}
use Rattle.gltf_findings_codes.specs.Found.{findings_from}
use Rattle.gltf_findings_codes.proofs.collect.add_all.Given as goal

-- what the items that are left add gives all findings
abbrev pub invariant-loop-number : goal.invariant-loop-number
invariant-loop-number g l = l.to.items ++ findings_from (g.R.Rules.findings l.rules) l.number (drop l.number l.items) ≡ l.fn.to.items ++ findings_from (g.R.Rules.findings l.rules) 0 l.items
