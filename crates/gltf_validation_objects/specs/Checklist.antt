-- The checklist of a value: everything below its place at which something can be wrong, in order, and then what is wrong at
-- the place itself.
use Rattle.std.specs.Prelude.{ℕ, zero, suc, ◌+◌, List, [], ◌∷◌, ◌++◌, Bool, true, false, ◌&&◌, max, Option, Some, None}
use Rattle.gltf_base.specs.Steps.{Step}
use Rattle.gltf_base.specs.declared.validation.Error.{Error}
use Rattle.gltf_validation_rules.specs.Report.{From, report}

mutual
  -- what is below, and then what is wrong here
  pub data Checklist : Type 0 where
    place : Checklists → List Error → Checklist

  -- each checklist is one step further
  pub data Checklists : Type 0 where
    nothing : Checklists
    below : Step → Checklist → Checklists → Checklists

-- the fault at a place, if there is one
abbrev pub fault_list : Option Error → List Error
fault_list None = []
fault_list (Some error) = error ∷ []

-- a place with nothing below and at most one fault
abbrev pub leaf : Option Error → Checklist
leaf e = place nothing (fault_list e)

abbrev pub also : Checklists → Checklists → Checklists
also nothing qs = qs
also (below s p ps) qs = below s p (also ps qs)

-- ---- what is reported

-- each fault at a place
abbrev pub reports_here : List Error → From
reports_here [] base = []
reports_here (error ∷ es) base = report base error ∷ reports_here es base

abbrev mutual
  -- the reports of a checklist whose place is `base`
  pub reports_of : Checklist → From
  reports_of (place ps es) base = reports_below ps base ++ reports_here es base

  pub reports_below : Checklists → From
  reports_below nothing base = []
  reports_below (below s p ps) base = reports_of p (base ++ s ∷ []) ++ reports_below ps base

-- ---- whether anything is wrong

abbrev mutual
  -- nothing is wrong at the place or below it
  pub quiet : Checklist → Bool
  quiet (place ps []) = all_quiet ps
  quiet (place ps (error ∷ es)) = false

  pub all_quiet : Checklists → Bool
  all_quiet nothing = true
  all_quiet (below s p ps) = quiet p && all_quiet ps

-- ---- moves through a checklist

pub data Move : Type 0 where
  -- a step down, to a checklist
  down : Step → Checklist → Move
  -- what is wrong here
  fault : Error → Move
  -- nothing more
  over : Move

-- what remains of a checklist after a number of moves
abbrev pub rest_after_below : Checklists → List Error → ℕ → Checklist
rest_after_below ps es zero = place ps es
rest_after_below nothing [] (suc n) = rest_after_below nothing [] n
rest_after_below nothing (error ∷ es) (suc n) = rest_after_below nothing es n
rest_after_below (below s p ps) es (suc n) = rest_after_below ps es n

abbrev pub rest_after : Checklist → ℕ → Checklist
rest_after (place ps es) n = rest_after_below ps es n

-- the first move of a checklist
abbrev pub first_move : Checklist → Move
first_move (place (below s p ps) es) = down s p
first_move (place nothing (error ∷ es)) = fault error
first_move (place nothing []) = over

-- the move at a number
abbrev pub move_at : Checklist → ℕ → Move
move_at p n = first_move (rest_after p n)

-- ---- how deep it is

abbrev mutual
  -- the greatest number of steps down
  pub height : Checklist → ℕ
  height (place ps es) = heights ps

  pub heights : Checklists → ℕ
  heights nothing = 0
  heights (below s p ps) = max (1 + height p) (heights ps)
