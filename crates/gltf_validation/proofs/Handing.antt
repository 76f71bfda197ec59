-- Reports handed to a sink one at a time.
use Rattle.std.proofs.Common.{◌≡◌, List, [], ◌∷◌, ◌++◌, sym, ◌∙◌, ap, append_assoc}
use Rattle.gltf_base.specs.Steps.{Step}
use Rattle.gltf_base.specs.declared.validation.Error.{Error}
use Rattle.gltf_validation_rules.specs.Report.{Report, report}
use Rattle.gltf_validation_rules.specs.SinkOutcome.{run}
use Rattle.gltf_validation_rules.proofs.Walks.{run-append}

-- the sink took those before what is left
pub record Handing {S : Type 0} (next : S → List Step → Error → S) (old : S) (all left : List Report) (new : S) : Type 0 where
  pub before : List Report
  pub split : all ≡ before ++ left
  pub ran : new ≡ run next old before

-- and it took one more
pub handing-more : {S : Type 0} (next : S → List Step → Error → S) (o s t : S) (all left : List Report) (steps : List Step) (error : Error)
    → Handing next o all (report steps error ∷ left) s → t ≡ next s steps error → Handing next o all left t
handing-more next o s t all left steps error h e = record {
  before = h.before ++ report steps error ∷ [];
  split = h.split ∙ sym (append_assoc h.before (report steps error ∷ []) left);
  ran = e ∙ (ap (λ v. next v steps error) h.ran ∙ sym (run-append next o h.before (report steps error ∷ [])));
}
