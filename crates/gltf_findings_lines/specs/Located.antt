-- Where the findings of a file are, and how it is printed.
use Rattle.std.specs.Prelude.{ℕ, List, [], ◌++◌, ◌==◌, length, if◌then◌else◌, codes}
use Rattle.std.specs.Fmt.{decimal}
use Rattle.serde_json.specs.Data.{Data, null, number, string, unsigned}
use Rattle.gltf_base.specs.Pointers.{pointer_text}
use Rattle.gltf_findings_codes.specs.declared.code.Code.{Code}
use Rattle.gltf_findings_codes.specs.Places.{place_steps}
use Rattle.gltf_report_lines.specs.Escaped.{escaped}
use Rattle.gltf_findings_lines.specs.declared.finding.FileFinding.{FileFinding}
use Rattle.gltf_findings_lines.specs.declared.finding.FindingPlace.{FindingPlace}
use Rattle.gltf_findings_lines.specs.declared.finding.FindingPlace.TheVariants.{Byte, Subject, Pointer}

-- at an offset in a .glb file, in bytes, or at the place of the document that a JSON pointer (RFC 6901) leads to
pub data Where : Type 0 where
  byte : ℕ → Where
  place : List ℕ → Where

abbrev pub where_of : FindingPlace → Where
where_of (Byte n) = byte n
where_of (Subject p) = place (pointer_text (place_steps p))
where_of (Pointer p) = place p.now

-- what is wrong, and where
pub record Located : Type 0 where
  pub code : Code
  pub at : Where

abbrev pub located : FileFinding → Located
located f = record { code = f.code; at = where_of f.location }

-- the pointer; an offset has none
abbrev pub pointer_of : Where → List ℕ
pointer_of (byte n) = []
pointer_of (place p) = p

-- the offset and the pointer as JSON
abbrev pub offset_data : Where → Data
offset_data (byte n) = number (unsigned n)
offset_data (place p) = null

abbrev pub pointer_data : Where → Data
pointer_data (byte n) = null
pointer_data (place p) = string p

-- the same as text; the pointer of the document itself is empty
abbrev pub shown_pointer : List ℕ → List ℕ
shown_pointer p = if length p == 0 then [] else (escaped p ++ codes ": ")

abbrev pub where_text : Where → List ℕ
where_text (byte n) = codes "byte " ++ decimal n ++ codes ": "
where_text (place p) = shown_pointer p
