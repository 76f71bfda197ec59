-- The numbers before are 0.
use Rattle.std.proofs.Common.{◌≡◌, drop}
use Rattle.gltf_findings_rules.specs.Materials.{are_zeros}
use Rattle.gltf_findings_rules.proofs.materials.are_zeros.Given as goal

abbrev pub invariant-loop-number : goal.invariant-loop-number
invariant-loop-number l = are_zeros l.numbers ≡ are_zeros (drop l.number-index l.numbers)
