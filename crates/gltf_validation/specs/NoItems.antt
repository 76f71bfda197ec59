-- That a list has no items has one proof at most.
use Rattle.std.specs.Prelude.{◌≡◌, List, [], ◌∷◌, ⊤}
use Rattle.std.proofs.Common.{refl, sym, ◌∙◌, ap, subst}
use mathlib.Core.HLevel.{Unit-prop}
use mathlib.Core.Path.{path_j}

abbrev HasNone : {A : Type 0} → List A → Type 0
HasNone [] = ⊤
HasNone (x ∷ xs) = ⊥

HasNone-prop : {A : Type 0} (xs : List A) → IsProp (HasNone xs)
HasNone-prop [] = Unit-prop
HasNone-prop (x ∷ xs) = λ h k. absurd h

told : {A : Type 0} (xs : List A) → HasNone xs → [] ≡ xs
told [] h = refl
told (x ∷ xs) h = absurd h

known : {A : Type 0} (xs : List A) → [] ≡ xs → HasNone xs
known xs p = subst HasNone p tt

told-known : {A : Type 0} (xs : List A) (p : [] ≡ xs) → told xs (known xs p) ≡ p
unfolding told known
told-known {A} xs p = path_j (λ (ys : List A) (q : [] ≡ ys). told ys (known ys q) ≡ q) refl p

from_none-prop : {A : Type 0} (xs : List A) → IsProp ([] ≡ xs)
from_none-prop xs p q = sym (told-known xs p) ∙ ap (told xs) (HasNone-prop xs (known xs p) (known xs q)) ∙ told-known xs q

pub none-prop : {A : Type 0} (xs : List A) → IsProp (xs ≡ [])
none-prop [] = from_none-prop []
none-prop (x ∷ xs) = λ p q. absurd (known (x ∷ xs) (sym p))
