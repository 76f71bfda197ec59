-- Lists that have no findings of some codes.
use Rattle.std.specs.Prelude.{List, [], ◌∷◌, Bool, true, not, ◌&&◌}
use Rattle.gltf_findings_codes.specs.declared.code.Code.{Code}
use Rattle.gltf_findings_codes.specs.declared.finding.Finding.{Finding}

abbrev pub are_without : (Code → Bool) → List Finding → Bool
are_without codes [] = true
are_without codes (f ∷ fs) = not (codes f.code) && are_without codes fs
