use Rattle.std.proofs.Common.{◌≡◌, drop}
use Rattle.gltf_findings_lines.specs.Chosen.{is_ignored}
use Rattle.gltf_findings_lines.proofs.choices.Choices.ignores.Given as goal

-- the choices that are left decide
abbrev pub invariant-loop-ignored : goal.invariant-loop-ignored
invariant-loop-ignored l = is_ignored (drop l.ignored-index l.self.ignored.now) l.finding ≡ is_ignored l.self.ignored.now l.finding
