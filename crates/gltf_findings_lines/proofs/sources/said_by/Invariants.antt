-- A text is among those that were added or those that are left.
use Rattle.std.proofs.Common.{◌≡◌, ℕ, List, drop, map}
use Rattle.std.specs.Prelude.{◌||◌}
use Rattle.std.specs.BTreeSet.{contains_text}
use Rattle.gltf_findings_members.specs.Noted.{noted}
use Rattle.gltf_findings_lines.specs.Sources.{is_said}
use Rattle.gltf_findings_lines.proofs.sources.said_by.Given as goal

abbrev pub invariant-loop-notice : goal.invariant-loop-notice
invariant-loop-notice l = (q : List ℕ) → (contains_text l.found q || is_said (map noted (drop l.notice-index l.notices)) q) ≡ is_said (map noted l.notices) q
