-- What a list without findings of some codes says of one rule.
use Rattle.std.proofs.Common.{◌≡◌, ℕ, zero, suc, List, [], ◌∷◌, Bool, true, false, not, Option, Some, None, refl, subst}
use Rattle.std.specs.Prelude.{slice_get}
use Rattle.std.proofs.lemmas.Bool.{and_parts, not-true, both_ways}
use Rattle.gltf_findings_codes.specs.declared.code.Code.{Code}
use Rattle.gltf_findings_codes.specs.declared.finding.Subject.{Subject}
use Rattle.gltf_findings_codes.specs.declared.finding.Finding.{Finding}
use Rattle.gltf_findings_codes.specs.Found.{broken, found}
use Rattle.gltf_findings_codes.specs.Without.{are_without}

pub absent : (codes : Code → Bool) (rules : List (Option Finding)) (i : ℕ) (f : Finding) → slice_get rules i ≡ Some (Some f) → are_without codes (found rules) ≡ true → codes f.code ≡ false
absent codes [] i f at h = absurd cc
absent codes (x ∷ rest) zero f at h =
    let is : x ≡ Some f = cc in
    let whole : are_without codes (found (Some f ∷ rest)) ≡ true = subst (λ y. are_without codes (found (y ∷ rest)) ≡ true) is h in
    not-true (codes f.code) (and_parts (not (codes f.code)) (are_without codes (found rest)) whole).0
absent codes (None ∷ rest) (suc i) f at h = absent codes rest i f at h
absent codes (Some g ∷ rest) (suc i) f at h = absent codes rest i f at (and_parts (not (codes g.code)) (are_without codes (found rest)) h).1

-- a rule whose code is one of these is not broken
pub unbroken : (codes : Code → Bool) (rules : List (Option Finding)) (i : ℕ) (b : Bool) (code : Code) (place : Subject) → slice_get rules i ≡ Some (broken b code place) → codes code ≡ true → are_without codes (found rules) ≡ true → b ≡ false
unbroken codes rules i false code place at is h = refl
unbroken codes rules i true code place at is h = absurd (both_ways (codes code) (absent codes rules i (record { code = code; place = place }) at h) is)
