use Rattle.std.proofs.Common.{◌≡◌, ◌++◌, drop}
use Rattle.gltf_findings_lines.specs.Chosen.{chosen}
use Rattle.gltf_findings_lines.proofs.choices.Choices.chosen.Given as goal

-- what is chosen of the findings that are left gives all that is chosen
abbrev pub invariant-loop-finding : goal.invariant-loop-finding
invariant-loop-finding l = l.shown.items ++ chosen l.self (drop l.finding-index l.findings) ≡ chosen l.self l.findings
