-- The findings of a file that a caller in C gives.
use Rattle.std.proofs.Common.{◌≡◌, ℕ, List, nat_eq}
use Rattle.std.specs.Prelude.{codes}
use Rattle.std.specs.List.{starts_with}
use Rattle.gltf_findings_lines.specs.Checked.{IsJsonOf}
use Rattle.gltf_findings_lines.specs.declared.check.FileFindings.{FileFindings}
use Rattle.gltf_findings_lines.specs.declared.file.File.{File}
use Rattle.gltf_c.specs.Calls.{AreFoundIn}

pub found_of : (file : File) {named bytes : List ℕ} {found : FileFindings} → IsJsonOf file found → file.name.now ≡ named → file.bytes.now ≡ bytes
    → file.is_container ≡ starts_with nat_eq bytes (codes "glTF") → AreFoundIn named bytes found
found_of file h is_named is_made_of is_sorted = record { file = file; is_named = is_named; is_made_of = is_made_of; is_sorted = is_sorted; each = h }
