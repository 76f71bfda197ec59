-- Lists of two parts.
use Rattle.std.proofs.Common.{◌≡◌, List, [], ◌∷◌, ◌++◌, refl}
use Rattle.std.proofs.lemmas.List.Elements.{All-nil, All-cons, All-head, All-tail}
use Rattle.std.specs.List.{All}

-- two equal parts make equal wholes
pub joined : {A : Type 0} {a b c d : List A} → a ≡ b → c ≡ d → a ++ c ≡ b ++ d
joined p q = cc

-- a whole without items has none in either part
pub first_none : {A : Type 0} (xs ys : List A) → xs ++ ys ≡ [] → xs ≡ []
first_none [] ys h = refl
first_none (x ∷ xs) ys h = absurd cc

pub second_none : {A : Type 0} (xs ys : List A) → xs ++ ys ≡ [] → ys ≡ []
second_none [] ys h = h
second_none (x ∷ xs) ys h = absurd cc

-- what holds of each item of a whole holds of each in either part
pub first_all : {A : Type 0} (P : A → Type 0) (xs ys : List A) → All P (xs ++ ys) → All P xs
first_all P [] ys h = All-nil P
first_all P (x ∷ xs) ys h = All-cons P x xs (All-head P x (xs ++ ys) h) (first_all P xs ys (All-tail P x (xs ++ ys) h))

pub second_all : {A : Type 0} (P : A → Type 0) (xs ys : List A) → All P (xs ++ ys) → All P ys
second_all P [] ys h = h
second_all P (x ∷ xs) ys h = second_all P xs ys (All-tail P x (xs ++ ys) h)

pub all_one : {A : Type 0} (P : A → Type 0) (x : A) → P x → All P (x ∷ [])
all_one P x p = All-cons P x [] p (All-nil P)
