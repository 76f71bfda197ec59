-- What an item that a spelling means is.
use Rattle.std.proofs.Common.{◌≡◌, suc, Bool, true, false, cond, List, [], ◌∷◌, ap, sym, refl, ◌∙◌, arith}
use Rattle.std.specs.List.{Contains}
use Rattle.std.proofs.lemmas.Bool.Decides.{Decides-eqb}
use Rattle.std.proofs.lemmas.Slice.Eq.{bytes_eq-Decides}
use Rattle.gltf_base.specs.Spelling.{Spelling, by_number, by_name, is_spelled, item_spelled}
use Rattle.gltf_base.specs.declared.validation.Checked.TheVariants.{Valid}

-- two spellings that are the same are equal
pub same_spelling : (s t : Spelling) → is_spelled s t ≡ true → s ≡ t
same_spelling (by_number m) (by_number n) e = ap by_number ((Decides-eqb m n).0 e)
same_spelling (by_name s) (by_name t) e = ap by_name ((bytes_eq-Decides s t).0 e)
same_spelling (by_number m) (by_name t) e = cc
same_spelling (by_name s) (by_number n) e = cc

-- what holds of the tail of a list holds of the list
Contains-cons : {X : Type 0} (y x : X) (ys : List X) → Contains ys x → Contains (y ∷ ys) x
Contains-cons y x ys (k, below, here) = (suc k, omega arith, here)

-- the same of a list, where it holds of the tail
spelled_in-cons : {X : Type 0} (spell : X → Spelling) (y x : X) (ys : List X) (s : Spelling) (b : Bool) → is_spelled (spell y) s ≡ b → ((item_spelled spell ys s ≡ Valid x) → (spell x ≡ s) × Contains ys x) → cond b (Valid y) (item_spelled spell ys s) ≡ Valid x → (spell x ≡ s) × Contains (y ∷ ys) x
spelled_in-cons spell y x ys s true h rest e =
    let found : y ≡ x = cc in
    (ap spell (sym found) ∙ same_spelling (spell y) s h, (0, omega arith, found))
spelled_in-cons spell y x ys s false h rest e = let r = rest e in (r.0, Contains-cons y x ys r.1)

-- an item that a spelling means has that spelling, and is one of the list
pub item_spelled-Valid : {X : Type 0} (spell : X → Spelling) (xs : List X) (s : Spelling) (x : X) → item_spelled spell xs s ≡ Valid x → (spell x ≡ s) × Contains xs x
item_spelled-Valid spell [] s x e = cc
item_spelled-Valid spell (y ∷ ys) s x e = spelled_in-cons spell y x ys s (is_spelled (spell y) s) refl (item_spelled-Valid spell ys s x) e
