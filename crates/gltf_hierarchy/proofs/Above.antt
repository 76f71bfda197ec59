-- From a chain of parents to a node above another.
use Rattle.std.proofs.Common.{◌≡◌, ℕ, zero, suc, ◌<◌, ◌+◌, ◌-◌, List, length, get_or, Option, Some, None, refl, sym, ◌∙◌, ap, arith, subst, inl, inr}
use Rattle.std.proofs.lemmas.Grind.{common_steps}
use Rattle.std.proofs.lemmas.Bool.{cases_lt}
use Rattle.std.proofs.lemmas.Option.{slice_get-get_or}
use Rattle.gltf_hierarchy.specs.Order.{IsParent, IsAbove}
use Rattle.gltf_hierarchy.specs.Sorting.{IsAt, parent_of}

pub parent_within : (parents : List (Option ℕ)) (n p : ℕ) → parent_of parents n ≡ Some p → n < length parents
parent_within parents n p h = elim (cases_lt n (length parents)) [ inl small ↦ small | inr past ↦ let none : get_or parents n None ≡ None = grind (arith, common_steps) in cc ]

pub parent_read : (parents : List (Option ℕ)) (n p : ℕ) → parent_of parents n ≡ Some p → IsParent parents n p
parent_read parents n p h = slice_get-get_or parents n None (parent_within parents n p h) ∙ ap Some h

pub above_more : (parents : List (Option ℕ)) (k n a p : ℕ) → IsAbove parents k n a → IsParent parents a p → IsAbove parents (suc k) n p
above_more parents zero n a p e h = (p, subst (λ x. IsParent parents x p) (sym e) h, refl)
above_more parents (suc k) n a p (b, h1, h2) h = (b, h1, above_more parents k b a p h2 h)

-- along the chain
pub above_along : (parents : List (Option ℕ)) (chain : List ℕ) → ((j : ℕ) → j + 1 < length chain → parent_of parents (get_or chain j 0) ≡ Some (get_or chain (j + 1) 0)) → (k j : ℕ) → j + k < length chain → IsAbove parents k (get_or chain j 0) (get_or chain (j + k) 0)
above_along parents chain linked zero j h = ap (λ i. get_or chain i 0) (omega arith)
above_along parents chain linked (suc k) j h =
    let first = parent_read parents _ _ (linked j (omega arith)) in
    let rest = above_along parents chain linked k (j + 1) (omega arith) in
    (get_or chain (j + 1) 0, first, subst (λ i. IsAbove parents k (get_or chain (j + 1) 0) (get_or chain i 0)) (omega arith) rest)

-- a chain whose last node has the parent at its place i goes round
pub round : (parents : List (Option ℕ)) (chain : List ℕ) (i n : ℕ) → ((j : ℕ) → j + 1 < length chain → parent_of parents (get_or chain j 0) ≡ Some (get_or chain (j + 1) 0)) → i < length chain → get_or chain i 0 ≡ n → IsAt parents chain (Some n) → (k : ℕ) × IsAbove parents (suc k) n n
round parents chain i n linked small here at =
    let k : ℕ = length chain - 1 - i in
    let up = above_along parents chain linked k i (omega arith) in
    let last = parent_read parents (get_or chain (i + k) 0) n (at (i + k) (omega arith)) in
    let whole = above_more parents k (get_or chain i 0) (get_or chain (i + k) 0) n up last in
    (k, subst (λ x. IsAbove parents (suc k) x n) here whole)
