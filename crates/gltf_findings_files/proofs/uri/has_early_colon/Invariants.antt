-- The bytes that are left decide.
use Rattle.std.proofs.Common.{◌≡◌, drop}
use Rattle.gltf_findings_files.specs.Uris.{has_early_colon}
use Rattle.gltf_findings_files.proofs.uri.has_early_colon.Given as goal

abbrev pub invariant-loop-byte : goal.invariant-loop-byte
invariant-loop-byte l = has_early_colon l.text ≡ has_early_colon (drop l.byte-index l.text)
