-- The bytes before are digits.
use Rattle.std.proofs.Common.{◌≡◌, drop}
use Rattle.gltf_findings_members.specs.Attributes.{all_digits}
use Rattle.gltf_findings_members.proofs.attribute.all_digits.Given as goal

abbrev pub invariant-loop-byte : goal.invariant-loop-byte
invariant-loop-byte l = all_digits l.text ≡ all_digits (drop l.byte-index l.text)
