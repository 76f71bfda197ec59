-- Tests of what a list was made of.
use Rattle.std.proofs.Common.{◌≡◌, List, [], ◌∷◌, Bool, ◌||◌, map, refl, ap}
use Rattle.std.specs.List.{list_any}

-- a test of the items made is one of those that they were made of
pub any-map : {A B : Type 0} (p : B → Bool) (f : A → B) (xs : List A) → list_any (λ x. p (f x)) xs ≡ list_any p (map f xs)
any-map p f [] = refl
any-map p f (x ∷ xs) = ap (λ b. p (f x) || b) (any-map p f xs)
