-- The bytes that are left make the number.
use Rattle.std.proofs.Common.{◌≡◌, drop}
use Rattle.gltf_findings.specs.Versions.{value_from}
use Rattle.gltf_findings.proofs.version.digits_of.Given as goal

abbrev pub invariant-loop-byte : goal.invariant-loop-byte
invariant-loop-byte l = value_from 0 l.text ≡ value_from l.value (drop l.byte-index l.text)
