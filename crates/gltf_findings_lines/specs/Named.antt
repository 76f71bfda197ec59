-- Codes and severities by their names.
use Rattle.std.specs.Prelude.{◌≡◌, ℕ, List, [], ◌∷◌, if◌then◌else◌, bytes_eq, Option, Some, None}
use Rattle.gltf_findings_codes.specs.declared.code.Code.{Code}
use Rattle.gltf_findings_codes.specs.declared.code.Severity.{Severity}
use Rattle.gltf_findings_codes.specs.Codes.{code_name, severity_name}

-- the first one of a list with a name
abbrev pub named_in : {X : Type 0} → (X → List ℕ) → List X → List ℕ → Option X
named_in name_of [] name = None
named_in name_of (x ∷ xs) name = if bytes_eq (name_of x) name then Some x else named_in name_of xs name

-- no code has a name
abbrev pub IsNoCode : List ℕ → Type 0
IsNoCode name = (code : Code) → code_name code ≡ name → ⊥

-- no severity has a name
abbrev pub IsNoSeverity : List ℕ → Type 0
IsNoSeverity name = (severity : Severity) → severity_name severity ≡ name → ⊥
