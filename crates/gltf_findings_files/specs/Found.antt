-- The findings of rules.
use Rattle.std.specs.Prelude.{ℕ, List, [], ◌∷◌, Bool, if◌then◌else◌, Option, Some, None}
use Rattle.gltf_findings_codes.specs.declared.code.Code.{Code}
use Rattle.gltf_findings_files.specs.declared.finding.GlbFinding.{GlbFinding}

-- the finding of a rule, if the rule is broken
abbrev pub broken : Bool → Code → ℕ → Option GlbFinding
broken b code offset = if b then Some (record { code = code; offset = offset }) else None

-- the findings of the rules that are broken
abbrev pub found : List (Option GlbFinding) → List GlbFinding
found [] = []
found (Some f ∷ rest) = f ∷ found rest
found (None ∷ rest) = found rest
