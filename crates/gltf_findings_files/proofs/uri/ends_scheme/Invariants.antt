-- The bytes that are left decide.
use Rattle.std.proofs.Common.{◌≡◌, drop}
use Rattle.gltf_findings_files.specs.Uris.{ends_scheme}
use Rattle.gltf_findings_files.proofs.uri.ends_scheme.Given as goal

abbrev pub invariant-loop-byte : goal.invariant-loop-byte
invariant-loop-byte l = ends_scheme l.text ≡ ends_scheme (drop l.byte-index l.text)
