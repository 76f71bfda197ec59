-- Whether a document has no report, by the first fault that is found in it.
use Rattle.std.proofs.Common.{◌≡◌, ◌↔◌, Bool, true, false, not, List, [], Option, Some, None, refl, sym, ◌∙◌, ap}
use Rattle.std.specs.Prelude.{IsTrue, is_some}
use Rattle.std.proofs.lemmas.Option.{none-some}
use Rattle.gltf_base.specs.declared.validation.Error.{Error}
use Rattle.gltf_validation_rules.specs.Report.{Report, first_fault_of}
use Rattle.gltf_validation.proofs.Sinking.{no_first_fault}

-- no fault is found exactly where nothing is wrong
pub clean_iff : (found : Option Error) (b : Bool) (rs : List Report) → is_some found ≡ not b → found ≡ first_fault_of rs → IsTrue b ↔ (rs ≡ [])
clean_iff None true rs is told = (λ t. no_first_fault rs (sym told), λ none. refl)
clean_iff None false rs is told = absurd cc
clean_iff (Some e) true rs is told = absurd cc
clean_iff (Some e) false rs is told = (λ t. absurd cc, λ none. absurd (none-some e (sym (told ∙ ap first_fault_of none))))
