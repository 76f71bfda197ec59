-- The numbers before are those of the identity.
use Rattle.std.proofs.Common.{◌≡◌, drop}
use Rattle.gltf_findings_rules.specs.Placed.{is_identity}
use Rattle.gltf_findings_rules.proofs.placed.is_identity.Given as goal

abbrev pub invariant-loop-number : goal.invariant-loop-number
invariant-loop-number l = is_identity 0 l.matrix ≡ is_identity l.number (drop l.number l.matrix)
