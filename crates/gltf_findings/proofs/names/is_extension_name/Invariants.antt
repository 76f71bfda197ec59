-- The bytes before are of the prefix.
use Rattle.std.proofs.Common.{◌≡◌, drop, false, nat_lt}
use Rattle.gltf_findings.specs.ExtensionNames.{name_from}
use Rattle.gltf_findings.proofs.names.is_extension_name.Given as goal

abbrev pub invariant-loop-place : goal.invariant-loop-place
invariant-loop-place l = name_from false l.text ≡ name_from (nat_lt 0 l.place) (drop l.place l.text)
