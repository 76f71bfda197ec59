-- What a list without findings of some codes says of the rules behind it.
use Rattle.std.proofs.Common.{◌≡◌, ℕ, ◌+◌, zero, suc, List, [], ◌∷◌, ◌++◌, Bool, true, false, not, ◌&&◌, Option, Some, None, refl, sym, ◌∙◌, ap, subst, arith}
use Rattle.std.specs.Prelude.{slice_get}
use Rattle.std.proofs.lemmas.Bool.{and_parts, and_from}
use Rattle.gltf_findings_codes.specs.declared.code.Code.{Code}
use Rattle.gltf_findings_codes.specs.declared.finding.Subject.{Subject}
use Rattle.gltf_findings_codes.specs.declared.finding.Finding.{Finding}
use Rattle.gltf_findings_codes.specs.Found.{broken, found, findings_from, findings_if}
use Rattle.gltf_findings_codes.specs.Without.{are_without}

pub without_append : (codes : Code → Bool) (xs ys : List Finding) → are_without codes (xs ++ ys) ≡ true → (are_without codes xs ≡ true) × (are_without codes ys ≡ true)
without_append codes [] ys h = (refl, h)
without_append codes (x ∷ xs) ys h =
    let parts = and_parts (not (codes x.code)) (are_without codes (xs ++ ys)) h in
    let rest = without_append codes xs ys parts.1 in
    (and_from (not (codes x.code)) (are_without codes xs) parts.0 rest.0, rest.1)

-- a rule whose code is one of these is not broken, and the rules behind it give none either
pub without_rule : (codes : Code → Bool) (b : Bool) (code : Code) (place : Subject) (rest : List (Option Finding)) → codes code ≡ true → are_without codes (found (broken b code place ∷ rest)) ≡ true → (b ≡ false) × (are_without codes (found rest) ≡ true)
without_rule codes false code place rest is h = (refl, h)
without_rule codes true code place rest is h = absurd (let parts = and_parts (not (codes code)) (are_without codes (found rest)) h in let never : not true ≡ true = subst (λ b. not b ≡ true) is parts.0 in cc)

-- the same of a rule with any code
pub without_more : (codes : Code → Bool) (b : Bool) (code : Code) (place : Subject) (rest : List (Option Finding)) → are_without codes (found (broken b code place ∷ rest)) ≡ true → are_without codes (found rest) ≡ true
without_more codes false code place rest h = h
without_more codes true code place rest h = (and_parts (not (codes code)) (are_without codes (found rest)) h).1

pub without_from : {X : Type 0} (codes : Code → Bool) (f : ℕ → X → List Finding) (k : ℕ) (xs : List X) (i : ℕ) (x : X) → are_without codes (findings_from f k xs) ≡ true → slice_get xs i ≡ Some x → are_without codes (f (k + i) x) ≡ true
without_from codes f k [] i x h at = absurd cc
without_from codes f k (y ∷ ys) zero x h at =
    let is : y ≡ x = cc in
    let here = (without_append codes (f k y) (findings_from f (k + 1) ys) h).0 in
    let e : k ≡ k + 0 = omega arith in
    subst (λ n. are_without codes (f n x) ≡ true) e (subst (λ z. are_without codes (f k z) ≡ true) is here)
without_from codes f k (y ∷ ys) (suc i) x h at =
    let there = without_from codes f (k + 1) ys i x (without_append codes (f k y) (findings_from f (k + 1) ys) h).1 at in
    let e : k + 1 + i ≡ k + suc i = omega arith in
    subst (λ n. are_without codes (f n x) ≡ true) e there
