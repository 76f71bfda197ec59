-- The places of the accessors that were checked.
use Rattle.std.proofs.Common.{◌≡◌, ℕ, zero, suc, refl, ◌<◌, ◌+◌, List, [], ◌∷◌, ◌++◌, length, Some, subst, sym, ◌∙◌, ap, arith, get_or, inl, inr}
use Rattle.std.specs.Prelude.{slice_get}
use Rattle.std.proofs.lemmas.Bool.{cases_lt}
use Rattle.std.proofs.lemmas.List.{length_push, get_or_push, get_or_append_left}
use Rattle.std.proofs.lemmas.Option.{slice_get_within, slice_get-get_or, get_or_from_slice_get}
use Rattle.gltf_layout.specs.declared.storage.StoredAccessor.{StoredAccessor}
use Rattle.gltf_layout.specs.declared.place.Place.{Place}
use Rattle.gltf_layout.specs.Stored.{Stored}
use Rattle.gltf_layout.specs.Places.{IsPlace, HavePlaces, ArePlacesBelow}

more_places : (d : Stored) (places : List Place) (n : ℕ) (a : StoredAccessor) (p : Place) → ArePlacesBelow d places n → slice_get d.accessors n ≡ Some a → IsPlace d a p → ArePlacesBelow d (places ++ p ∷ []) (n + 1)
more_places d places n a p before at is = record {
  len = length_push places p ∙ ap (λ k. k + 1) before.len;
  each = λ m b q at_b at_q.
      let read : get_or (places ++ p ∷ []) m q ≡ q = get_or_from_slice_get (places ++ p ∷ []) m q q at_q in
      elim (cases_lt m (length places)) [
        | inl early ↦
            let old : get_or places m q ≡ q = sym (get_or_append_left places (p ∷ []) q m early) ∙ read in
            before.each m b q at_b (slice_get-get_or places m q early ∙ ap Some old)
        | inr late ↦
            let small : m < length places + 1 = subst (λ k. m < k) (length_push places p) (slice_get_within (places ++ p ∷ []) m q at_q) in
            let last : length places ≡ m = omega (arith, small, late) in
            let same : p ≡ q = sym (get_or_push places p q m last) ∙ read in
            let here : slice_get d.accessors m ≡ Some a = subst (λ k. slice_get d.accessors k ≡ Some a) (sym before.len ∙ last) at in
            let both : Some a ≡ Some b = sym here ∙ at_b in
            let accessor : a ≡ b = cc in
            subst (λ x. IsPlace d b x) same (subst (λ x. IsPlace d x p) accessor is)
      ];
}

pub is_there : {X : Type 0} (xs : List X) (m : ℕ) → m < length xs → (x : X) × (slice_get xs m ≡ Some x)
is_there [] m h = absurd (omega (arith, h))
is_there (x ∷ xs) zero h = (x, refl)
is_there (x ∷ xs) (suc m) h = is_there xs m (omega (arith, h))

-- what a push leaves
pub pushed : (d : Stored) (places after : List Place) (n : ℕ) (a : StoredAccessor) (p : Place) → after ≡ places ++ p ∷ [] → ArePlacesBelow d places n → slice_get d.accessors n ≡ Some a → IsPlace d a p → ArePlacesBelow d after (n + 1)
pushed d places after n a p e before at is = subst (λ xs. ArePlacesBelow d xs (n + 1)) (sym e) (more_places d places n a p before at is)

pub have_places : (d : Stored) (places : List Place) (n : ℕ) → ArePlacesBelow d places n → HavePlaces d 0 n
have_places d places n s = λ m a low small at.
    let there = is_there places m (subst (λ k. m < k) (sym s.len) small) in
    (there.0, s.each m a there.0 at there.1)
