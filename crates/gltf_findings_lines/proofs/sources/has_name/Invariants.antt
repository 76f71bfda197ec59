-- No code before this one has the name.
use Rattle.std.proofs.Common.{◌≡◌, drop}
use Rattle.gltf_findings_lines.specs.Sources.{has_name}
use Rattle.gltf_findings_lines.proofs.sources.has_name.Given as goal

abbrev pub invariant-loop-known : goal.invariant-loop-known
invariant-loop-known l = has_name l.codes l.code ≡ has_name (drop l.known-index l.codes) l.code
