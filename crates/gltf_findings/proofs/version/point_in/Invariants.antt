-- No byte before is a point.
use Rattle.std.proofs.Common.{◌≡◌, ◌+◌, drop}
use Rattle.gltf_findings.specs.Versions.{point_in}
use Rattle.gltf_findings.proofs.version.point_in.Given as goal

abbrev pub invariant-loop-place : goal.invariant-loop-place
invariant-loop-place l = point_in l.text ≡ l.place + point_in (drop l.place l.text)
