-- All names before are known.
use Rattle.std.proofs.Common.{◌≡◌, drop}
use Rattle.gltf_findings.specs.ExtensionNames.{are_supported}
use Rattle.gltf_findings.proofs.names.are_supported.Given as goal

abbrev pub invariant-loop-name : goal.invariant-loop-name
invariant-loop-name l = are_supported l.names ≡ are_supported (drop l.name-index l.names)
