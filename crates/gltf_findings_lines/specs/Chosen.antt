-- Which findings of a file are printed, and how severe each of them is there.
use Rattle.std.specs.Prelude.{ℕ, List, [], ◌∷◌, Bool, false, ◌&&◌, ◌||◌, ◌==◌, if◌then◌else◌, bytes_eq, length, slice_index, Option, Some, None}
use Rattle.gltf_base.specs.Names.{behind}
use Rattle.gltf_findings_codes.specs.declared.code.Severity.{Severity}
use Rattle.gltf_findings_codes.specs.Codes.{code_name, code_severity}
use Rattle.gltf_findings_lines.specs.Located.{pointer_of, where_of}
use Rattle.gltf_findings_lines.specs.declared.choices.Choices.{Choices}
use Rattle.gltf_findings_lines.specs.declared.choices.Ignored.{Ignored}
use Rattle.gltf_findings_lines.specs.declared.choices.Leveled.{Leveled}
use Rattle.gltf_findings_lines.specs.declared.choices.Shown.{Shown}
use Rattle.gltf_findings_lines.specs.declared.finding.FileFinding.{FileFinding}

-- the severity of findings with a code: the one that the caller chose last for its name, or else a given one
abbrev pub severity_by : List Leveled → List ℕ → Severity → Severity
severity_by [] name own = own
severity_by (x ∷ xs) name own = severity_by xs name (if bytes_eq x.code.now name then x.severity else own)

-- what is behind a pointer is nothing, or begins with "/"
abbrev pub is_step_end : Option (List ℕ) → Bool
is_step_end None = false
is_step_end (Some rest) = length rest == 0 || slice_index rest 0 == 47

-- a pointer leads to a place or to what is in it
abbrev pub is_at_or_below : List ℕ → List ℕ → Bool
is_at_or_below place pointer = is_step_end (behind place pointer)

abbrev pub is_covered : Ignored → FileFinding → Bool
is_covered x f = bytes_eq x.code.now (code_name f.code) && is_at_or_below x.pointer.now (pointer_of (where_of f.location))

-- one of the caller's choices covers a finding
abbrev pub is_ignored : List Ignored → FileFinding → Bool
is_ignored [] f = false
is_ignored (x ∷ xs) f = is_covered x f || is_ignored xs f

-- the findings that are not ignored, in order
abbrev pub chosen : Choices → List FileFinding → List Shown
chosen c [] = []
chosen c (f ∷ fs) = if is_ignored c.ignored.now f then chosen c fs
    else (record { severity = severity_by c.severities.now (code_name f.code) (code_severity f.code); finding = f } ∷ chosen c fs)
