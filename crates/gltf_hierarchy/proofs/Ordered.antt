-- An order with and without a choice of places.
use Rattle.std.proofs.Common.{◌≡◌, ℕ, zero, suc, List, [], ◌∷◌, Option, Some, None, ap, arith, inl, inr, ◌⊎◌}
use Rattle.std.specs.Prelude.{slice_get}
use Rattle.std.proofs.lemmas.Bool.{cases_eq}
use Rattle.gltf_hierarchy.specs.Order.{IsOrder, IsOrdered, AreNodes}

pub ordered : (parents : List (Option ℕ)) (order : List ℕ) → IsOrder parents order → IsOrdered parents order
ordered parents order o = record {
  nodes = o.nodes;
  each = λ n h none. let there = o.each n h in none there.0 there.1;
  once = o.once;
  parents_first = λ i j n p at parent there.
      let up = o.parents_first i n p at parent in
      let same : j ≡ up.0 = o.once j up.0 p there up.2 in
      omega (arith, same, up.1);
}

not_in : (y : ℕ) (ys : List ℕ) (x : ℕ) → (y ≡ x → ⊥) → ((i : ℕ) → slice_get ys i ≡ Some x → ⊥) → (i : ℕ) → slice_get (y ∷ ys) i ≡ Some x → ⊥
not_in y ys x apart none zero e = apart cc
not_in y ys x apart none (suc i) e = none i e

-- a number is in a list, or isn't
place : (xs : List ℕ) (x : ℕ) → ((i : ℕ) × (slice_get xs i ≡ Some x)) ⊎ ((i : ℕ) → slice_get xs i ≡ Some x → ⊥)
place [] x = inr (λ i e. let both : None ≡ Some x = e in cc)
place (y ∷ ys) x = elim (cases_eq y x) [
  | inl same ↦ inl (0, ap Some same)
  | inr apart ↦ elim (place ys x) [
    | inl (i, at) ↦ inl (suc i, at)
    | inr none ↦ inr (not_in y ys x apart none)
  ]
]

there_is : (xs : List ℕ) (x : ℕ) → (((i : ℕ) → slice_get xs i ≡ Some x → ⊥) → ⊥) → (i : ℕ) × (slice_get xs i ≡ Some x)
there_is xs x some = elim (place xs x) [ inl at ↦ at | inr none ↦ absurd (some none) ]

pub order_of : (parents : List (Option ℕ)) (order : List ℕ) → AreNodes parents → IsOrdered parents order → IsOrder parents order
order_of parents order nodes o = record {
  nodes = o.nodes;
  each = λ n h. there_is order n (o.each n h);
  once = o.once;
  parents_first = λ i n p at parent.
      let there = there_is order p (o.each p (nodes n p parent)) in
      (there.0, o.parents_first i there.0 n p at parent there.1, there.1);
}
