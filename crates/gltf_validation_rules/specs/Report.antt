-- What is wrong at a place, and lists of that.
use Rattle.std.specs.Prelude.{ℕ, suc, List, [], ◌∷◌, ◌++◌, Option, Some, None}
use Rattle.gltf_base.specs.Steps.{Step, item}
use Rattle.gltf_base.specs.declared.validation.Error.{Error}

-- a place, and what is wrong there
pub record Report : Type 0 where
  pub steps : List Step
  pub error : Error

abbrev pub report : List Step → Error → Report
report steps error = record { steps = steps; error = error }

-- reports by the steps of the place that they are seen from
abbrev pub From : Type 0
From = List Step → List Report

-- what a call found at a place, if anything
abbrev pub found_at : Option Error → From
found_at None base = []
found_at (Some error) base = report base error ∷ []

-- what is wrong first, if anything is
abbrev pub first_fault_of : List Report → Option Error
first_fault_of [] = None
first_fault_of (r ∷ rs) = Some r.error

-- what is wrong in each item of a list, at its number
abbrev pub each_at : {X : Type 0} → (X → From) → ℕ → List X → From
each_at f i [] base = []
each_at f i (x ∷ xs) base = f x (base ++ item i ∷ []) ++ each_at f (suc i) xs base
