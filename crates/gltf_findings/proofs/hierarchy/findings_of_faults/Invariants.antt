use Rattle.std.proofs.Common.{◌≡◌, ◌++◌, drop, map}
use Rattle.gltf_findings.specs.Hierarchy.{fault_finding}
use Rattle.gltf_findings.proofs.hierarchy.findings_of_faults.Given as goal

-- the faults that are left give all findings
abbrev pub invariant-loop-fault : goal.invariant-loop-fault
invariant-loop-fault l = l.rules.items ++ map fault_finding (drop l.fault-index l.faults) ≡ map fault_finding l.faults
