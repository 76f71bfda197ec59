-- One more name of a list.
use Rattle.std.proofs.Common.{◌≡◌, ℕ, zero, suc, ◌+◌, List, [], ◌∷◌, ◌++◌, drop, Some, None, sym, ◌∙◌, ap, arith}
use Rattle.std.specs.Prelude.{slice_get, String}
use Rattle.std.specs.declared.alloc.Global.{Global}
use Rattle.std.proofs.lemmas.List.{append_assoc}
use Rattle.gltf_findings_codes.specs.declared.name.Name.{Name}
use Rattle.gltf_findings_codes.specs.declared.finding.Finding.{Finding}
use Rattle.gltf_findings_codes.specs.Found.{findings_from}
use Rattle.gltf_findings.specs.ExtensionNames.{required_findings, name_repeats, is_listed}

pub drop_at : {X : Type 0} (xs : List X) (k : ℕ) (x : X) → slice_get xs k ≡ Some x → drop k xs ≡ x ∷ drop (k + 1) xs
drop_at [] k x e = let clash : None ≡ Some x = e in cc
drop_at (y ∷ ys) zero x e = let is : y ≡ x = cc in ap (λ z. z ∷ ys) is
drop_at (y ∷ ys) (suc k) x e =
    let next : suc (k + 1) ≡ suc k + 1 = omega arith in
    drop_at ys k x e ∙ ap (λ j. x ∷ drop j (y ∷ ys)) next

pub more_required : (used required : List (String Global)) (old now new : List Finding) (k : ℕ) (x : String Global) → slice_get required k ≡ Some x → new ≡ now ++ required_findings used k x → now ++ findings_from (required_findings used) k (drop k required) ≡ old → new ++ findings_from (required_findings used) (k + 1) (drop (k + 1) required) ≡ old
more_required used required old now new k x at e h =
    let rest : List Finding = findings_from (required_findings used) (k + 1) (drop (k + 1) required) in
    ap (λ xs. xs ++ rest) e ∙ append_assoc now (required_findings used k x) rest ∙ sym (ap (λ ys. now ++ findings_from (required_findings used) k ys) (drop_at required k x at)) ∙ h

pub more_repeats : (list : Name) (names earlier : List (String Global)) (old now new here : List Finding) (k : ℕ) (x : String Global) → slice_get names k ≡ Some x → new ≡ now ++ here → name_repeats list earlier k (x ∷ drop (k + 1) names) ≡ here ++ name_repeats list (x ∷ earlier) (k + 1) (drop (k + 1) names) → now ++ name_repeats list earlier k (drop k names) ≡ old → new ++ name_repeats list (x ∷ earlier) (k + 1) (drop (k + 1) names) ≡ old
more_repeats list names earlier old now new here k x at e is h =
    let rest : List Finding = name_repeats list (x ∷ earlier) (k + 1) (drop (k + 1) names) in
    ap (λ xs. xs ++ rest) e ∙ append_assoc now here rest ∙ ap (λ ys. now ++ ys) (sym is) ∙ sym (ap (λ ys. now ++ name_repeats list earlier k ys) (drop_at names k x at)) ∙ h
