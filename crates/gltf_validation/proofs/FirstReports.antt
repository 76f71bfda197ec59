-- Whether some reports have a first one, and what that is.
use Rattle.std.proofs.Common.{◌≡◌, List, [], ◌∷◌, None, Some, Option, option_map, refl, sym, ◌∙◌, ap}
use Rattle.std.proofs.lemmas.Option.{none-some}
use Rattle.gltf_validation_rules.specs.Report.{Report}
use Rattle.gltf_validation.specs.FirstReport.{first_report, report_shown}
use Rattle.gltf_validation.specs.declared.report.Report.{Report as Returned}

no_first : (rs : List Report) → None ≡ first_report rs → rs ≡ []
no_first [] none = refl
no_first (r ∷ rs) none = absurd (none-some _ none)

-- a call that returns none found none
pub none_found : (found : Option Returned) (rs : List Report) → found ≡ None → option_map report_shown found ≡ first_report rs → rs ≡ []
none_found found rs is told = no_first rs (sym (ap (option_map report_shown) is) ∙ told)

-- a call that returns one found it
pub one_found : (found : Option Returned) (report : Returned) (rs : List Report) → found ≡ Some report → option_map report_shown found ≡ first_report rs
    → first_report rs ≡ Some (report_shown report)
one_found found report rs is told = sym told ∙ ap (option_map report_shown) is
