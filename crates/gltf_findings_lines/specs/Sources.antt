-- The findings of a file from all sources, in one list.
use Rattle.std.specs.Prelude.{◌≡◌, ℕ, List, [], ◌∷◌, ◌++◌, Bool, false, ◌||◌, map, bytes_eq, if◌then◌else◌, codes, String}
use Rattle.std.specs.declared.alloc.Global.{Global}
use Rattle.std.specs.BTreeSet.{BTreeSet, contains_text}
use Rattle.gltf_base.specs.Pointers.{pointer_text}
use Rattle.gltf_findings_codes.specs.declared.code.Code.{Code}
use Rattle.gltf_findings_codes.specs.declared.code.Code.TheVariants.{MeshPrimitiveInvalidAttribute}
use Rattle.gltf_findings_codes.specs.declared.finding.Finding.{Finding}
use Rattle.gltf_findings_codes.specs.Codes.{code_name}
use Rattle.gltf_findings_codes.specs.Places.{place_steps}
use Rattle.gltf_findings_files.specs.declared.finding.GlbFinding.{GlbFinding}
use Rattle.gltf_findings_members.specs.declared.notice.Notice.{Notice}
use Rattle.gltf_findings_members.specs.Noted.{Noted, noted}
use Rattle.gltf_findings_lines.specs.Located.{Located, byte, place}
use Rattle.gltf_findings_lines.specs.declared.sources.Sources.{Sources}

abbrev pub located_glb : GlbFinding → Located
located_glb f = record { code = f.code; at = byte f.offset }

abbrev pub located_noted : Noted → Located
located_noted n = record { code = n.1; at = place n.0 }

abbrev pub located_finding : Finding → Located
located_finding f = record { code = f.code; at = place (pointer_text (place_steps f.place)) }

-- a pointer and the name of a code, which has no colon
abbrev pub pointed : Code → List ℕ → List ℕ
pointed code pointer = pointer ++ codes ": " ++ code_name code

-- what is said of a place, as a text. A `Root` keeps no name of an attribute without a meaning, and so such findings say the same
abbrev pub said : Code → List ℕ → List ℕ
said MeshPrimitiveInvalidAttribute pointer = code_name MeshPrimitiveInvalidAttribute
said code pointer = pointed code pointer

abbrev pub says_noted : Noted → List ℕ → Bool
says_noted n q = bytes_eq (said n.1 n.0) q

-- one of the members' findings says it
abbrev pub is_said : List Noted → List ℕ → Bool
is_said [] q = false
is_said (n ∷ ns) q = says_noted n q || is_said ns q

-- a finding of a document, unless it is said before
abbrev pub unsaid_one : (List ℕ → Bool) → Finding → List Located
unsaid_one before f = if before (said f.code (pointer_text (place_steps f.place))) then [] else (located_finding f ∷ [])

abbrev pub unsaid : (List ℕ → Bool) → List Finding → List Located
unsaid before [] = []
unsaid before (f ∷ fs) = unsaid_one before f ++ unsaid before fs

-- all findings: those of the container, of the members, and of the document that the members don't say
abbrev pub all_located : List GlbFinding → List Noted → List Finding → List Located
all_located container members document = map located_glb container ++ map located_noted members ++ unsaid (is_said members) document

abbrev pub gathered : Sources → List Located
gathered s = all_located s.container.now (map noted s.members.now) s.document.now

-- ---- for private clauses
abbrev pub says : Notice → List ℕ → Bool
says n q = says_noted (noted n) q

abbrev pub unsaid_in : BTreeSet (String Global) → List Finding → List Located
unsaid_in before [] = []
unsaid_in before (f ∷ fs) = unsaid_one (contains_text before) f ++ unsaid_in before fs

-- what a finding of a document says
abbrev pub said_finding : Finding → List ℕ
said_finding f = said f.code (pointer_text (place_steps f.place))

-- the codes of notices
abbrev pub codes_in : List Notice → List Code
codes_in notices = map (λ n. n.code) notices

abbrev pub is_named : Code → Code → Bool
is_named code known = bytes_eq (code_name known) (code_name code)

-- one of the codes has the name of a code
abbrev pub has_name : List Code → Code → Bool
has_name [] code = false
has_name (known ∷ others) code = is_named code known || has_name others code

-- what is said in a set has one of the codes
abbrev pub IsSaidBy : List Code → BTreeSet (String Global) → Type 0
IsSaidBy known s = (code : Code) (pointer : List ℕ) → has_name known code ≡ false → contains_text s (said code pointer) ≡ false
