-- No name before is the one.
use Rattle.std.proofs.Common.{◌≡◌, drop}
use Rattle.gltf_findings.specs.ExtensionNames.{is_listed}
use Rattle.gltf_findings.proofs.names.is_listed.Given as goal

abbrev pub invariant-loop-listed : goal.invariant-loop-listed
invariant-loop-listed l = is_listed l.names l.name ≡ is_listed (drop l.listed-index l.names) l.name
