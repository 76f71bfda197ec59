-- One more child gets its parent.
use Rattle.std.proofs.Common.{◌≡◌, ℕ, zero, suc, ◌<◌, ◌+◌, List, [], ◌∷◌, length, Option, Some, None, refl, sym, ◌∙◌, ap, subst, arith, inl, inr}
use Rattle.std.specs.Prelude.{slice_get}
use Rattle.std.proofs.Math.ListN.{set, length-set}
use Rattle.std.proofs.lemmas.List.{get_or-set_same}
use Rattle.std.proofs.lemmas.Option.{slice_get-get_or, slice_get_within}
use Rattle.std.proofs.lemmas.Bool.{cases_eq, cases_lt}
use Rattle.gltf_hierarchy.specs.Adopted.{AreAdopted}

pub get_set_same : {X : Type 0} (xs : List X) (i : ℕ) (x : X) → i < length xs → slice_get (set xs i x) i ≡ Some x
get_set_same xs i x h = slice_get-get_or (set xs i x) i x (rw (length-set xs i x) h) ∙ ap Some (get_or-set_same xs i x x h)

pub get_set_other : {X : Type 0} (xs : List X) (i j : ℕ) (x : X) → (j ≡ i → ⊥) → slice_get (set xs i x) j ≡ slice_get xs j
get_set_other [] i j x apart = refl
get_set_other (y ∷ ys) zero zero x apart = absurd (apart refl)
get_set_other (y ∷ ys) zero (suc j) x apart = refl
get_set_other (y ∷ ys) (suc i) zero x apart = refl
get_set_other (y ∷ ys) (suc i) (suc j) x apart = get_set_other ys i j x (λ e. apart (ap suc e))

-- in a list with a read of nothing, and in one with a read of something
some_is_no_none : {X : Type 0} (o : Option (Option X)) (x : X) → o ≡ Some None → o ≡ Some (Some x) → ⊥
some_is_no_none o x e f = let both : Some None ≡ Some (Some x) = sym e ∙ f in cc

pub none_adopted : (old : List (Option ℕ)) (parent : ℕ) (children : List ℕ) → AreAdopted old old parent children 0
none_adopted old parent children = record {
  len = refl;
  each = λ i c h. absurd (omega (arith, h));
  kept = λ c p h. h;
  only = λ c p h. inl h;
  once = λ i j c h. absurd (omega (arith, h));
}

pub more_adopted : (old new : List (Option ℕ)) (parent : ℕ) (children : List ℕ) (k c : ℕ) → AreAdopted old new parent children k → slice_get children k ≡ Some c → slice_get new c ≡ Some None → AreAdopted old (set new c (Some parent)) parent children (k + 1)
more_adopted old new parent children k c a child free =
    let small : c < length new = slice_get_within new c None free in
    let now : slice_get (set new c (Some parent)) c ≡ Some (Some parent) = get_set_same new c (Some parent) small in
    record {
      len = length-set new c (Some parent) ∙ a.len;
      each = λ i d h e. elim (cases_eq d c) [
        | inl same ↦ rw same now
        | inr apart ↦ get_set_other new c d (Some parent) apart ∙ elim (cases_lt i k) [
          | inl early ↦ a.each i d early e
          | inr late ↦ absurd (apart (let at : i ≡ k = omega (arith, h, late) in let both : Some d ≡ Some c = sym e ∙ ap (λ x. slice_get children x) at ∙ child in cc))
        ]
      ];
      kept = λ d p e. elim (cases_eq d c) [
        | inl same ↦ absurd (some_is_no_none (slice_get new c) p free (subst (λ x. slice_get new x ≡ Some (Some p)) same (a.kept d p e)))
        | inr apart ↦ get_set_other new c d (Some parent) apart ∙ a.kept d p e
      ];
      only = λ d p e. elim (cases_eq d c) [
        | inl same ↦ inr (let both : Some (Some p) ≡ Some (Some parent) = sym e ∙ rw same now in let is : p ≡ parent = cc in (is, (k, omega arith, child ∙ ap Some (sym same))))
        | inr apart ↦ elim (a.only d p (sym (get_set_other new c d (Some parent) apart) ∙ e)) [
          | inl before ↦ inl before
          | inr (is, (i, h, at)) ↦ inr (is, (i, omega (arith, h), at))
        ]
      ];
      once = λ i j d hi hj ei ej. elim (cases_lt i k) [
        | inl i_early ↦ elim (cases_lt j k) [
          | inl j_early ↦ a.once i j d i_early j_early ei ej
          | inr j_late ↦ absurd (let at : j ≡ k = omega (arith, hj, j_late) in let both : Some d ≡ Some c = sym ej ∙ ap (λ x. slice_get children x) at ∙ child in let same : d ≡ c = cc in some_is_no_none (slice_get new c) parent free (subst (λ x. slice_get new x ≡ Some (Some parent)) same (a.each i d i_early ei)))
        ]
        | inr i_late ↦ elim (cases_lt j k) [
          | inl j_early ↦ absurd (let at : i ≡ k = omega (arith, hi, i_late) in let both : Some d ≡ Some c = sym ei ∙ ap (λ x. slice_get children x) at ∙ child in let same : d ≡ c = cc in some_is_no_none (slice_get new c) parent free (subst (λ x. slice_get new x ≡ Some (Some parent)) same (a.each j d j_early ej)))
          | inr j_late ↦ omega (arith, hi, i_late, hj, j_late)
        ]
      ];
    }
