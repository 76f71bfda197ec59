-- What a sink that refuses its first report was given.
use Rattle.std.proofs.Common.{◌≡◌, ℕ, suc, ◌≤◌, List, [], ◌∷◌, ◌++◌, map, Some, None, Err, refl, sym, ◌∙◌, ap, subst, arith}
use Rattle.arrayvec.specs.ArrayVec.{ArrayVec}
use Rattle.gltf_base.specs.Steps.{Step, step_of, steps_of}
use Rattle.gltf_base.specs.declared.path.Step.{Step as Borrowed}
use Rattle.gltf_base.specs.declared.validation.Error.{Error}
use Rattle.std.proofs.lemmas.Option.{none-some}
use Rattle.gltf_validation_rules.specs.SinkOutcome.{run, HandedOver}
use Rattle.gltf_validation_rules.specs.Report.{From, Report, first_fault_of}
use Rattle.gltf_validation_rules.specs.declared.sink.Stop.{Stop}
use Rattle.gltf_validation_rules.specs.declared.sink.Stop.TheVariants.{Sink}
use Rattle.gltf_validation.proofs.SameFaults.{SameFaults, nothing, one}

abbrev counted : ℕ → List Step → Error → ℕ
counted count steps error = suc count

counts_up : (n : ℕ) (rs : List Report) → n ≤ run counted n rs
counts_up n [] = omega arith
counts_up n (r ∷ rs) = omega (arith, counts_up (suc n) rs)

-- a sink that took no report
took_none : (rs : List Report) → run counted 0 rs ≡ 0 → rs ≡ []
took_none [] none = refl
took_none (r ∷ rs) none = absurd (omega (arith, counts_up 1 rs, none))

-- a report that is refused where none was taken is the first
refused_first : (all before after : List Report) (at : Report) → all ≡ before ++ at ∷ after → run counted 0 before ≡ 0
    → first_fault_of all ≡ Some at.error
refused_first all before after at parts none =
    ap first_fault_of parts ∙ ap (λ rs. first_fault_of (rs ++ at ∷ after)) (took_none before none)

-- ---- a walk from no steps, by what it answers

abbrev refused : ℕ → List Step → Error → Error → ℕ → Type 0
refused old steps error refusal new = (old ≡ 0) × (refusal ≡ error) × (new ≡ 0)

abbrev StoppedAt : List Report → ℕ → Stop Error → Type 0
StoppedAt all steps stop = HandedOver counted refused 0 all steps (Err stop) 0

from_none : (all : From) (path : ArrayVec Borrowed) → path.items ≡ [] → all (steps_of path) ≡ all []
from_none all path none = ap (λ steps. all (map step_of steps)) none

pub told_none : (all : From) (path : ArrayVec Borrowed) → path.items ≡ [] → 0 ≡ run counted 0 (all (steps_of path)) → None ≡ first_fault_of (all [])
told_none all path none handed = ap first_fault_of (sym (took_none (all (steps_of path)) (sym handed)) ∙ from_none all path none)

pub told_first : (all : From) (path : ArrayVec Borrowed) (steps : ℕ) (stop : Stop Error) (error : Error) → path.items ≡ [] → stop ≡ Sink error
    → StoppedAt (all (steps_of path)) steps stop → Some error ≡ first_fault_of (all [])
told_first all path steps stop error none is handed =
    let found = subst (StoppedAt (all (steps_of path)) steps) is handed in
    ap Some found.4.1 ∙ sym (refused_first (all (steps_of path)) found.0 found.2 found.1 found.3 found.4.0) ∙ ap first_fault_of (from_none all path none)

-- ---- the first error of lists

pub no_first_fault : (rs : List Report) → first_fault_of rs ≡ None → rs ≡ []
no_first_fault [] none = refl
no_first_fault (r ∷ rs) none = absurd (none-some r.error (sym none))

pub same_first : {rs qs : List Report} → SameFaults rs qs → first_fault_of rs ≡ first_fault_of qs
same_first nothing = refl
same_first (one a b error h) = refl
