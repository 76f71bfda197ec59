-- What is wrong with the container of a binary glTF file (glTF 2.0, section 4.4).
use Rattle.std.specs.Prelude.{ℕ, zero, suc, List, [], ◌∷◌, ◌++◌, not, ◌==◌, nat_lt, length, if◌then◌else◌}
use Rattle.gltf_findings_codes.specs.declared.code.Code.{Code}
use Rattle.gltf_findings_codes.specs.declared.code.Code.TheVariants.{GlbUnexpectedEndOfHeader, GlbInvalidMagic, GlbInvalidVersion, GlbLengthTooSmall}
use Rattle.gltf_buffers.specs.Reading.{magic}
use Rattle.gltf_findings_files.specs.declared.chunk.Before.{Before}
use Rattle.gltf_findings_files.specs.declared.finding.GlbFinding.{GlbFinding}
use Rattle.gltf_findings_files.specs.declared.findings.GlbFindings.{GlbFindings}
use Rattle.gltf_findings_files.specs.declared.rules.Lengths.{Lengths}
use Rattle.gltf_findings_files.specs.Found.{found}
use Rattle.gltf_findings_files.specs.Chunks.{number_at, chunk_at, end_of, start, after}
use Rattle.gltf_findings_files.specs.Rules.{is_at_end, end_rules, is_last, chunk_rules}

-- what a list of findings holds
abbrev pub found_in : GlbFindings → List GlbFinding
found_in f = f.found.items

-- the findings of the chunks from an offset on, as many as there are or n
unfoldable pub chunk_findings : ℕ → Lengths → List ℕ → Before → ℕ → List GlbFinding
chunk_findings zero l bytes before offset = []
chunk_findings (suc n) l bytes before offset =
    if is_at_end l offset
    then found (end_rules l offset)
    else found (chunk_rules l before (chunk_at offset bytes)) ++
    (if is_last l (chunk_at offset bytes)
    then []
    else chunk_findings n l bytes (after before (chunk_at offset bytes).kind) (end_of (chunk_at offset bytes)))

-- the only finding
abbrev pub only : Code → ℕ → List GlbFinding
only code offset = record { code = code; offset = offset } ∷ []

-- the length that the header gives, and that of the bytes
abbrev pub lengths_of : List ℕ → Lengths
lengths_of bytes = record { declared = number_at 8 bytes; actual = length bytes }

-- Section 4.4.2: a header of 12 bytes has the magic, the version and the length of the file. A file has fewer chunks than bytes.
abbrev pub glb_findings : List ℕ → List GlbFinding
glb_findings bytes =
    if nat_lt (length bytes) 12 then only GlbUnexpectedEndOfHeader (length bytes)
    else if not (number_at 0 bytes == magic) then only GlbInvalidMagic 0
    else if not (number_at 4 bytes == 2) then only GlbInvalidVersion 4
    else if nat_lt (number_at 8 bytes) 20 then only GlbLengthTooSmall 8
    else chunk_findings (length bytes) (lengths_of bytes) bytes start 12
