-- The bytes that are left decide.
use Rattle.std.proofs.Common.{◌≡◌, drop}
use Rattle.gltf_findings_files.specs.Uris.{has_uri_bytes}
use Rattle.gltf_findings_files.proofs.uri.has_uri_bytes.Given as goal

abbrev pub invariant-loop-place : goal.invariant-loop-place
invariant-loop-place l = has_uri_bytes l.text ≡ has_uri_bytes (drop l.place l.text)
