-- What is noticed, and at which place.
use Rattle.std.specs.Prelude.{◌≡◌, ◌++◌, ℕ, List, [], ◌∷◌, Option, Some, None, Result, Ok, Err, ⊤, map, codes, string_bytes}
use Rattle.gltf_base.specs.Pointers.{pointer_text}
use Rattle.gltf_base.specs.Steps.{Step, step_of}
use Rattle.gltf_findings_codes.specs.declared.code.Code.{Code}
use Rattle.gltf_findings_members.specs.declared.notice.Notice.{Notice}
use Rattle.gltf_findings_members.specs.declared.notice.Noticing.{Noticing}
use Rattle.gltf_findings_codes.specs.Codes.{code_name}

-- the JSON pointer (RFC 6901) to a place, and what is wrong there
abbrev pub Noted : Type 0
Noted = List ℕ × Code

-- a notice at the end of steps
abbrev pub note : List Step → Code → Noted
note at code = (pointer_text at, code)

abbrev pub maybe_note : List Step → Option Code → List Noted
maybe_note at None = []
maybe_note at (Some code) = note at code ∷ []

abbrev pub noted : Notice → Noted
noted n = (string_bytes n.pointer, n.code)

-- as it is printed
abbrev pub notice_text : Notice → List ℕ
notice_text n = string_bytes n.pointer ++ codes ": " ++ code_name n.code

-- the steps to the value that a walk is at, and what was noticed before
abbrev pub steps_in : Noticing → List Step
steps_in n = map step_of n.steps.items

abbrev pub noted_in : Noticing → List Noted
noted_in n = map noted n.notices.items

-- a walk notices more, and comes back to where it began
abbrev pub Adds : {X E : Type 0} → Noticing → Result X E → Noticing → List Noted → Type 0
Adds old (Ok x) new more = (steps_in new ≡ steps_in old) × (noted_in new ≡ noted_in old ++ more)
Adds old (Err e) new more = ⊤
