-- Each code and each severity is listed, and so a name that finds none is the name of none.
use Rattle.std.proofs.Common.{◌≡◌, ℕ, zero, suc, List, [], ◌∷◌, Some, None, slice_get, Bool, bytes_eq, true, false, cond, refl, sym, ◌∙◌, ap}
use Rattle.std.proofs.lemmas.Bool.{true≢false}
use Rattle.std.proofs.lemmas.Slice.Eq.{bytes_eq-Decides}
use Rattle.gltf_findings_codes.specs.Codes.{code_name, severity_name}
use Rattle.gltf_findings_codes.specs.declared.code.Severity.{Severity}
use Rattle.gltf_findings_codes.specs.declared.code.Severity.TheVariants.{Error, Warning, Information, Hint}
use Rattle.gltf_findings_lines.specs.Named.{named_in, IsNoCode, IsNoSeverity}
use Rattle.gltf_findings_lines.specs.declared.codes.TheConstants.{LEVELS}
use Rattle.gltf_findings_lines.specs.declared.codes.all.TheConstants.{ALL}
use Rattle.gltf_findings_lines.proofs.EachCode.{listed_code}
use Rattle.gltf_findings_lines.proofs.Listed.{IsListed}

-- what finds none among the others, and not the first, is the name of none
named_in-step : {X : Type 0} (f : X → List ℕ) (y x : X) (ys : List X) (name : List ℕ) (b : Bool) → bytes_eq (f y) name ≡ b
    → (named_in f ys name ≡ None → (k : ℕ) → slice_get ys k ≡ Some x → f x ≡ name → ⊥)
    → cond b (Some y) (named_in f ys name) ≡ None → (k : ℕ) → slice_get (y ∷ ys) k ≡ Some x → f x ≡ name → ⊥
named_in-step f y x ys name true h rest e k at is = cc
named_in-step f y x ys name false h rest e zero at is =
    let same : y ≡ x = cc in
    true≢false (sym ((bytes_eq-Decides (f y) name).1 (ap f same ∙ is)) ∙ h)
named_in-step f y x ys name false h rest e (suc k) at is = rest e k at is

named_in-none : {X : Type 0} (f : X → List ℕ) (xs : List X) (name : List ℕ) → named_in f xs name ≡ None → (x : X) (k : ℕ) → slice_get xs k ≡ Some x → f x ≡ name → ⊥
named_in-none f [] name e x k at is = cc
named_in-none f (y ∷ ys) name e x k at is =
    named_in-step f y x ys name (bytes_eq (f y) name) refl (λ none j there same. named_in-none f ys name none x j there same) e k at is

listed_severity : (s : Severity) → IsListed LEVELS.now s
listed_severity Error = (0, refl)
listed_severity Warning = (1, refl)
listed_severity Information = (2, refl)
listed_severity Hint = (3, refl)

pub no_code : (name : List ℕ) → named_in code_name ALL.now name ≡ None → IsNoCode name
no_code name none code is = let there = listed_code code in named_in-none code_name ALL.now name none code there.0 there.1 is

pub no_severity : (name : List ℕ) → named_in severity_name LEVELS.now name ≡ None → IsNoSeverity name
no_severity name none severity is = let there = listed_severity severity in named_in-none severity_name LEVELS.now name none severity there.0 there.1 is
