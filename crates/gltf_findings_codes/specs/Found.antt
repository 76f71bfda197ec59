-- The findings of rules, and of the items of a list.
use Rattle.std.specs.Prelude.{ℕ, ◌+◌, List, [], ◌∷◌, ◌++◌, Bool, if◌then◌else◌, Option, Some, None}
use Rattle.gltf_findings_codes.specs.declared.code.Code.{Code}
use Rattle.gltf_findings_codes.specs.declared.finding.Subject.{Subject}
use Rattle.gltf_findings_codes.specs.declared.finding.Finding.{Finding}

-- the finding of a rule, if the rule is broken
abbrev pub broken : Bool → Code → Subject → Option Finding
broken b code place = if b then Some (record { code = code; place = place }) else None

-- the findings of the rules that are broken
abbrev pub found : List (Option Finding) → List Finding
found [] = []
found (Some f ∷ rest) = f ∷ found rest
found (None ∷ rest) = found rest

-- the findings of items in order, by the number of each
abbrev pub findings_from : {X : Type 0} → (ℕ → X → List Finding) → ℕ → List X → List Finding
findings_from f k [] = []
findings_from f k (x ∷ xs) = f k x ++ findings_from f (k + 1) xs

-- the findings of what may be there
abbrev pub findings_if : {X : Type 0} → (X → List Finding) → Option X → List Finding
findings_if f None = []
findings_if f (Some x) = f x
