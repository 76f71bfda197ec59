-- A code is among those that were added or those that are left.
use Rattle.std.proofs.Common.{◌≡◌, drop}
use Rattle.std.specs.Prelude.{◌||◌}
use Rattle.gltf_findings_codes.specs.declared.code.Code.{Code}
use Rattle.gltf_findings_lines.specs.Sources.{codes_in, has_name}
use Rattle.gltf_findings_lines.proofs.sources.codes_of.Given as goal

abbrev pub invariant-loop-notice : goal.invariant-loop-notice
invariant-loop-notice l = (code : Code) → (has_name l.codes.items code || has_name (codes_in (drop l.notice-index l.notices)) code) ≡ has_name (codes_in l.notices) code
