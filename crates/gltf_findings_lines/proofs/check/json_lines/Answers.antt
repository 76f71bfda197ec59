-- The choices of all findings as JSON.
use Rattle.std.proofs.Common.{refl}
use Rattle.gltf_findings_lines.proofs.Built.{json_found}
use Rattle.gltf_findings_lines.proofs.check.json_lines.Goals as goal

pub returns : goal.returns
returns c = json_found _ _ c.in_ok-found.ensures c.in_ok-checker.ensures refl refl refl refl refl
