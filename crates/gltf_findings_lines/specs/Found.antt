-- The positions of the values to which pointers lead.
use Rattle.std.specs.Prelude.{◌≡◌, ◌⊎◌, ◌<◌, ◌^◌, ◌-◌, ℕ, List, Option, Some, None, Vec, length, String, string_bytes}
use Rattle.std.specs.declared.alloc.Global.{Global}
use Rattle.std.specs.List.{AllZip}
use Rattle.json.specs.Json.{Json, document}
use Rattle.gltf_findings_lines.specs.Places.{place_of}
use Rattle.gltf_findings_lines.specs.Positions.{BeginsAt, tokens_begun}
use Rattle.gltf_findings_lines.specs.declared.position.Position.{Position}

-- where the value begins to which a pointer leads in a JSON text
abbrev pub IsPositionOf : List ℕ → List ℕ → Position → Type 0
IsPositionOf text pointer p = (j : Json) × (document text ≡ Some j) × BeginsAt text (place_of pointer j) p

-- those of several pointers; a text is no JSON or too long if there are none
abbrev pub ArePositions : List ℕ → List (String Global) → Option (Vec Position Global) → Type 0
ArePositions text pointers (Some positions) = AllZip (λ q p. IsPositionOf text (string_bytes q) p) pointers positions.items
ArePositions text pointers None = (document text ≡ None) ⊎ (2 ^ 32 - 256 < length text)

-- ---- for private clauses

-- the numbers of the tokens to which pointers lead
abbrev pub ArePlacesIn : List ℕ → List (String Global) → Option (Vec ℕ Global) → Type 0
ArePlacesIn text pointers (Some places) = (j : Json) × (document text ≡ Some j) × AllZip (λ q n. (n ≡ place_of (string_bytes q) j) × (n < tokens_begun text)) pointers places.items
ArePlacesIn text pointers None = document text ≡ None
