-- Checklists one below the other: where a walk is.
use Rattle.std.specs.Prelude.{ℕ, suc, ◌+◌, ◌-◌, List, [], ◌∷◌, ◌++◌, length, take, max}
use Rattle.gltf_base.specs.Steps.{Step}
use Rattle.gltf_validation_rules.specs.Report.{Report}
use Rattle.gltf_validation_objects.specs.Checklist.{Checklist, reports_of, height}

-- the reports of checklists one below the other, the last first; each is one step further than the one before it, and the first
-- is at the first `n` steps
abbrev pub to_come_from : ℕ → List Step → List Checklist → List Report
to_come_from n steps [] = []
to_come_from n steps (p ∷ ps) = to_come_from (suc n) steps ps ++ reports_of p (take n steps)

-- the last is at all the steps
abbrev pub to_come_of : List Step → List Checklist → List Report
to_come_of steps ps = to_come_from (length steps - (length ps - 1)) steps ps

-- the number of steps from the first of them to the deepest place
abbrev pub reach : ℕ → List Checklist → ℕ
reach n [] = 0
reach n (p ∷ ps) = max (n + height p) (reach (suc n) ps)
