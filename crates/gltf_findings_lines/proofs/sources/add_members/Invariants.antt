use Rattle.std.proofs.Common.{◌≡◌, ◌++◌, drop, map}
use Rattle.gltf_findings_members.specs.Noted.{noted}
use Rattle.gltf_findings_lines.specs.Located.{located}
use Rattle.gltf_findings_lines.specs.Sources.{located_noted}
use Rattle.gltf_findings_lines.proofs.sources.add_members.Given as goal

-- the notices that are left give all
abbrev pub invariant-loop-notice : goal.invariant-loop-notice
invariant-loop-notice l = map located l.to.items ++ map located_noted (map noted (drop l.notice-index l.notices)) ≡ map located l.fn.to.items ++ map located_noted (map noted l.notices)
