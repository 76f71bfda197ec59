-- Where findings are in the JSON of a file, by line and column.
use Rattle.std.specs.Prelude.{◌≡◌, ◌⊎◌, ◌<◌, ◌^◌, ◌-◌, ℕ, List, [], ◌∷◌, Bool, true, false, IsUtf8, Option, Some, None, Result, Ok, Err, length, nat_le}
use Rattle.std.specs.List.{AllZip}
use Rattle.json.specs.Json.{document}
use Rattle.gltf_buffers.specs.declared.error.GlbError.{GlbError}
use Rattle.gltf_findings_lines.specs.Found.{IsPositionOf}
use Rattle.gltf_findings_lines.specs.declared.position.Position.{Position}
use Rattle.gltf_findings_lines.specs.Located.{Where, byte, place, pointer_of, where_of}
use Rattle.gltf_findings_lines.specs.Parts.{FileParts, file_parts}
use Rattle.gltf_findings_lines.specs.declared.choices.Shown.{Shown}
use Rattle.gltf_findings_lines.specs.declared.file.File.{File}
use Rattle.gltf_findings_lines.specs.declared.placed.Placed.{Placed}

-- no place has a position in a text that is no JSON, or is too long
abbrev pub HasNoPositions : List ℕ → Type 0
HasNoPositions text = (¬ (IsUtf8 text)) ⊎ ((document text ≡ None) ⊎ (2 ^ 32 - 256 < length text))

-- the position of a place is where its value begins, or else the last value that is there on the way to it; an offset in a container has none
abbrev pub IsPositionAt : List ℕ → Where → Option Position → Type 0
IsPositionAt text (byte n) p = p ≡ None
IsPositionAt text (place pointer) None = HasNoPositions text
IsPositionAt text (place pointer) (Some p) = IsPositionOf text pointer p

abbrev pub HasPosition : List ℕ → Shown → Placed → Type 0
HasPosition text x p = (p.shown ≡ x) × IsPositionAt text (where_of x.finding.location) p.position

abbrev pub HasNone : Shown → Placed → Type 0
HasNone x p = (p.shown ≡ x) × (p.position ≡ None)

-- the JSON of a file; that of a container that can't be read is empty
abbrev pub file_json : Result FileParts GlbError → List ℕ
file_json (Ok parts) = parts.0
file_json (Err e) = []

abbrev pub ArePlacedIf : Bool → List ℕ → List Shown → List Placed → Type 0
ArePlacedIf true text xs ps = AllZip (HasPosition text) xs ps
ArePlacedIf false text xs ps = AllZip HasNone xs ps

-- findings with their positions if the text is no longer than a number of bytes
abbrev pub ArePlaced : ℕ → List ℕ → List Shown → List Placed → Type 0
ArePlaced most text xs ps = ArePlacedIf (nat_le (length text) most) text xs ps

-- ---- for private clauses

abbrev pub pointer_in : Shown → List ℕ
pointer_in x = pointer_of (where_of x.finding.location)

abbrev pub placed_by : Where → Position → Option Position
placed_by (byte n) p = None
placed_by (place pointer) p = Some p

abbrev pub placed_one : Shown → Position → Placed
placed_one x p = record { shown = x; position = placed_by (where_of x.finding.location) p }

abbrev pub placed_all : List Shown → List Position → List Placed
placed_all [] ps = []
placed_all (x ∷ xs) [] = []
placed_all (x ∷ xs) (p ∷ ps) = placed_one x p ∷ placed_all xs ps
