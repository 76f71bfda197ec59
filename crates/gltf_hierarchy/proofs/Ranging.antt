-- A number is in the range of a node exactly if its node is that one or below it.
use Rattle.std.proofs.Common.{◌≡◌, ℕ, zero, suc, ◌<◌, ◌≤◌, ◌+◌, ◌-◌, List, length, get_or, Option, Some, None, refl, sym, ◌∙◌, ap, subst, arith, inl, inr}
use Rattle.std.specs.Prelude.{slice_get}
use Rattle.std.proofs.lemmas.Option.{slice_get_within, get_or_from_slice_get}
use Rattle.std.proofs.lemmas.Bool.{cases_eq, cases_lt}
use Rattle.gltf_hierarchy.specs.Order.{IsParent, IsAbove}
use Rattle.gltf_hierarchy.specs.Depths.{IsDepth}
use Rattle.gltf_hierarchy.specs.Shares.{AreRanges, AreApart, above, above_of}

above_parent : (parents : List (Option ℕ)) (n p : ℕ) → IsParent parents n p → above_of parents n ≡ p
above_parent parents n p e = ap (above (length parents)) (get_or_from_slice_get parents n (Some p) None e)

above_root : (parents : List (Option ℕ)) (n : ℕ) → slice_get parents n ≡ Some None → above_of parents n ≡ length parents
above_root parents n e = ap (above (length parents)) (get_or_from_slice_get parents n None None e)

-- the range of a node is in that of each node above
pub record IsInside (firsts sizes : List ℕ) (n a : ℕ) : Type 0 where
  pub from : get_or firsts a 0 ≤ get_or firsts n 0
  pub to : get_or firsts n 0 + get_or sizes n 0 ≤ get_or firsts a 0 + get_or sizes a 0

pub inside : (parents : List (Option ℕ)) (firsts sizes : List ℕ) (d n a : ℕ) → AreRanges parents firsts sizes → IsAbove parents d n a → IsInside firsts sizes n a
inside parents firsts sizes zero n a r e = record { from = subst (λ x. get_or firsts x 0 ≤ get_or firsts n 0) e (omega arith); to = subst (λ x. get_or firsts n 0 + get_or sizes n 0 ≤ get_or firsts x 0 + get_or sizes x 0) e (omega arith) }
inside parents firsts sizes (suc d) n a r (p, parent, rest) =
    let small : n < length parents = slice_get_within parents n (Some p) parent in
    let e : above_of parents n ≡ p = above_parent parents n p parent in
    let first : get_or firsts p 0 < get_or firsts n 0 = subst (λ x. get_or firsts x 0 < get_or firsts n 0) e (r.later n small) in
    let last : get_or firsts n 0 + get_or sizes n 0 ≤ get_or firsts p 0 + get_or sizes p 0 = subst (λ x. get_or firsts n 0 + get_or sizes n 0 ≤ get_or firsts x 0 + get_or sizes x 0) e (r.within n small) in
    let more = inside parents firsts sizes d p a r rest in
    record { from = omega (arith, first, more.from); to = omega (arith, last, more.to) }

-- who is strictly below comes later
later : (parents : List (Option ℕ)) (firsts sizes : List ℕ) (d n a : ℕ) → AreRanges parents firsts sizes → 0 < d → IsAbove parents d n a → get_or firsts a 0 < get_or firsts n 0
later parents firsts sizes zero n a r some up = absurd (omega (arith, some))
later parents firsts sizes (suc d) n a r some (p, parent, rest) =
    let small : n < length parents = slice_get_within parents n (Some p) parent in
    let first : get_or firsts p 0 < get_or firsts n 0 = subst (λ x. get_or firsts x 0 < get_or firsts n 0) (above_parent parents n p parent) (r.later n small) in
    omega (arith, first, (inside parents firsts sizes d p a r rest).from)

within_apart : (firsts sizes : List ℕ) (m n p q : ℕ) → IsInside firsts sizes m p → IsInside firsts sizes n q → AreApart (get_or firsts p 0) (get_or sizes p 0) (get_or firsts q 0) (get_or sizes q 0) → AreApart (get_or firsts m 0) (get_or sizes m 0) (get_or firsts n 0) (get_or sizes n 0)
within_apart firsts sizes m n p q x y (inl before) = inl (omega (arith, x.to, y.from, before))
within_apart firsts sizes m n p q x y (inr after) = inr (omega (arith, y.to, x.from, after))

depth_within : (parents : List (Option ℕ)) (d n : ℕ) → IsDepth parents n d → n < length parents
depth_within parents zero n (r, none, e) = slice_get_within parents n None (subst (λ x. slice_get parents x ≡ Some None) (sym e) none)
depth_within parents (suc d) n (r, none, (p, parent, rest)) = slice_get_within parents n (Some p) parent

-- two nodes of one depth have ranges apart
pub apart : (parents : List (Option ℕ)) (firsts sizes : List ℕ) (d m n : ℕ) → AreRanges parents firsts sizes → IsDepth parents m d → IsDepth parents n d → (m ≡ n → ⊥) → AreApart (get_or firsts m 0) (get_or sizes m 0) (get_or firsts n 0) (get_or sizes n 0)
apart parents firsts sizes zero m n r (rm, m_root, m_is) (rn, n_root, n_is) differ =
    let m_none : slice_get parents m ≡ Some None = subst (λ x. slice_get parents x ≡ Some None) (sym m_is) m_root in
    let n_none : slice_get parents n ≡ Some None = subst (λ x. slice_get parents x ≡ Some None) (sym n_is) n_root in
    r.apart m n (slice_get_within parents m None m_none) (slice_get_within parents n None n_none) differ (above_root parents m m_none ∙ sym (above_root parents n n_none))
apart parents firsts sizes (suc d) m n r (rm, m_root, (p, m_parent, m_rest)) (rn, n_root, (q, n_parent, n_rest)) differ = elim (cases_eq p q) [
  | inl same ↦ r.apart m n (slice_get_within parents m (Some p) m_parent) (slice_get_within parents n (Some q) n_parent) differ (above_parent parents m p m_parent ∙ same ∙ sym (above_parent parents n q n_parent))
  | inr other ↦
      let up_m : IsAbove parents (suc zero) m p = (p, m_parent, refl) in
      let up_n : IsAbove parents (suc zero) n q = (q, n_parent, refl) in
      within_apart firsts sizes m n p q (inside parents firsts sizes (suc zero) m p r up_m) (inside parents firsts sizes (suc zero) n q r up_n) (apart parents firsts sizes d p q r (rm, m_root, m_rest) (rn, n_root, n_rest) other)
]

-- the node so many steps above one that is deeper
lifted : (parents : List (Option ℕ)) (k d m n : ℕ) → m ≡ k + d → IsDepth parents n m → (x : ℕ) × IsAbove parents k n x × IsDepth parents x d
lifted parents zero d m n e deep = (n, refl, subst (λ x. IsDepth parents n x) (omega (arith, e)) deep)
lifted parents (suc k) d zero n e deep = absurd (omega (arith, e))
lifted parents (suc k) d (suc m) n e (r, none, (p, parent, rest)) =
    let there = lifted parents k d m p (omega (arith, e)) (r, none, rest) in
    (there.0, (p, parent, there.1), there.2)

-- the ranges of a node and of one that isn't above it
pub found : (parents : List (Option ℕ)) (firsts sizes : List ℕ) (da dn a n : ℕ) → AreRanges parents firsts sizes → IsDepth parents a da → IsDepth parents n dn → get_or firsts a 0 ≤ get_or firsts n 0 → get_or firsts n 0 < get_or firsts a 0 + get_or sizes a 0 → (d : ℕ) × IsAbove parents d n a
found parents firsts sizes da dn a n r a_deep n_deep from to =
    let a_some : 0 < get_or sizes a 0 = r.some a (depth_within parents da a a_deep) in
    let n_some : 0 < get_or sizes n 0 = r.some n (depth_within parents dn n n_deep) in
    elim (cases_lt dn da) [
      | inl higher ↦
          let there = lifted parents (da - dn) dn da a (omega (arith, higher)) a_deep in
          elim (cases_eq there.0 n) [
            | inl same ↦ absurd (omega (arith, from, later parents firsts sizes (da - dn) a n r (omega (arith, higher)) (subst (λ x. IsAbove parents (da - dn) a x) same there.1)))
            | inr other ↦
                let in_it = inside parents firsts sizes (da - dn) a there.0 r there.1 in
                absurd (elim (apart parents firsts sizes dn there.0 n r there.2 n_deep other) [
                  | inl before ↦ omega (arith, before, in_it.to, to)
                  | inr after ↦ omega (arith, after, in_it.from, from, n_some)
                ])
          ]
      | inr deeper ↦
          let there = lifted parents (dn - da) da dn n (omega (arith, deeper)) n_deep in
          elim (cases_eq there.0 a) [
            | inl same ↦ (dn - da, subst (λ x. IsAbove parents (dn - da) n x) same there.1)
            | inr other ↦
                let in_it = inside parents firsts sizes (dn - da) n there.0 r there.1 in
                absurd (elim (apart parents firsts sizes da there.0 a r there.2 a_deep other) [
                  | inl before ↦ omega (arith, before, in_it.to, from, n_some)
                  | inr after ↦ omega (arith, after, in_it.from, to)
                ])
          ]
    ]
