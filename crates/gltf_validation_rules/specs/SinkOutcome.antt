-- What a walk hands to a sink.
use Rattle.std.specs.Prelude.{◌≡◌, ℕ, ◌+◌, ◌<◌, List, [], ◌∷◌, ◌++◌, length, Result, Ok, Err}
use Rattle.arrayvec.specs.ArrayVec.{ArrayVec}
use Rattle.gltf_base.specs.Steps.{Step, steps_of}
use Rattle.gltf_base.specs.declared.path.Step.{Step as Borrowed}
use Rattle.gltf_base.specs.declared.validation.Error.{Error}
use Rattle.gltf_validation_rules.specs.Report.{Report, From}
use Rattle.gltf_validation_rules.specs.declared.sink.Stop.{Stop}
use Rattle.gltf_validation_rules.specs.declared.sink.Stop.TheVariants.{StepsFull, Sink}

-- a sink's state after reports that it took
abbrev pub run : {S : Type 0} → (S → List Step → Error → S) → S → List Report → S
run next s [] = s
run next s (r ∷ rs) = run next (next s r.steps r.error) rs

module _ {S R : Type 0} (next : S → List Step → Error → S) (refuses : S → List Step → Error → R → S → Type 0) where
  -- a sink took some of the reports, from the first on
  abbrev pub TookFirst : S → List Report → S → Type 0
  TookFirst old all new = (before : List Report) × (after : List Report) × (all ≡ before ++ after) × (new ≡ run next old before)

  -- a sink took some of the reports, from the first on, and refused the next one
  abbrev pub RefusedOne : S → List Report → R → S → Type 0
  RefusedOne old all r new = (before : List Report) × (at : Report) × (after : List Report)
      × (all ≡ before ++ at ∷ after) × refuses (run next old before) at.steps at.error r new

  -- what became of the reports, by a walk's answer: the sink took them all; or some place may be more than 16 steps away;
  -- or the sink refused one
  abbrev pub HandedOver : S → List Report → ℕ → Result (Unit {0}) (Stop R) → S → Type 0
  HandedOver old all steps (Ok _) new = new ≡ run next old all
  HandedOver old all steps (Err StepsFull) new = (16 < steps) × TookFirst old all new
  HandedOver old all steps (Err (Sink r)) new = RefusedOne old all r new

  -- a walk: the path at its end is that at its start, and the sink was handed the reports from there, of places at most so many
  -- steps further
  pub record Walked (path : ArrayVec Borrowed) (old : S) (all : From) (depth : ℕ)
      (result : Result (Unit {0}) (Stop R)) (exit : ArrayVec Borrowed) (new : S) : Type 0 where
    pub same : exit ≡ path
    pub handed : HandedOver old (all (steps_of path)) (length (steps_of path) + depth) result new
