-- Where children stand among the places of all nodes, and what the first fault of these places says.
use Rattle.std.proofs.Common.{◌≡◌, ℕ, zero, suc, ◌+◌, ◌<◌, ◌≤◌, List, [], ◌∷◌, ◌++◌, length, Bool, true, false, Option, Some, None, refl, sym, ◌∙◌, ap, subst, arith, inl, inr, ◌⊎◌}
use Rattle.std.specs.Prelude.{slice_get, nat_lt, ◌==◌, if◌then◌else◌}
use Rattle.std.proofs.lemmas.Bool.{ltb-false, eqb-true}
use Rattle.std.proofs.lemmas.List.{append_assoc}
use Rattle.std.proofs.lemmas.Option.{slice_get_within}
use Rattle.gltf_hierarchy.specs.declared.fault.HierarchyFault.{HierarchyFault}
use Rattle.gltf_hierarchy.specs.declared.fault.HierarchyFault.TheVariants.{TooManyNodes, NoSuchChild, TwoParents, Cycle, Memory}
use Rattle.gltf_hierarchy.specs.Nodes.{children_of}
use Rattle.gltf_hierarchy.specs.Faults.{Place, places_in, places_from, first_parent, second_place, place_fault, faults_behind}

-- a place is one of a node's children, or stands behind them
block : (n : ℕ) (children : List ℕ) (rest : List Place) (j : ℕ) (p : Place) → slice_get (places_in n children ++ rest) j ≡ Some p → ((slice_get children j ≡ Some p.child) × (p.parent ≡ n) × (j < length children)) ⊎ ((k : ℕ) × (j ≡ length children + k) × (slice_get rest k ≡ Some p))
block n [] rest j p at = inr (j, omega arith, at)
block n (c ∷ cs) rest zero p at =
    let q : Place = record { parent = n; child = c } in
    let is : q ≡ p = cc in
    inl (ap (λ x. Some x.child) is, sym (ap (λ x. x.parent) is), omega arith)
block n (c ∷ cs) rest (suc j) p at = elim (block n cs rest j p at) [
  | inl x ↦ inl (x.0, x.1, omega (arith, x.2))
  | inr x ↦ inr (x.0, omega (arith, x.1), x.2)
]

pub child_of : (n : ℕ) (nodes : List (List ℕ)) (j : ℕ) (p : Place) → slice_get (places_from n nodes) j ≡ Some p → (m i : ℕ) × (p.parent ≡ n + m) × (slice_get (children_of nodes m) i ≡ Some p.child)
child_of n [] j p at = absurd cc
child_of n (children ∷ rest) j p at = elim (block n children (places_from (n + 1) rest) j p at) [
  | inl x ↦ (0, j, omega (arith, x.1), x.0)
  | inr x ↦
      let there = child_of (n + 1) rest x.0 p x.2 in
      (suc there.0, there.1, omega (arith, there.2), there.3)
]

-- two places of one node are two of its children
pub twice : (n : ℕ) (nodes : List (List ℕ)) (i j : ℕ) (p q : Place) → i < j → slice_get (places_from n nodes) i ≡ Some p → slice_get (places_from n nodes) j ≡ Some q → p.parent ≡ q.parent → (m a b : ℕ) × (a < b) × (slice_get (children_of nodes m) a ≡ Some p.child) × (slice_get (children_of nodes m) b ≡ Some q.child)
twice n [] i j p q small at_i at_j same = absurd cc
twice n (children ∷ rest) i j p q small at_i at_j same = elim (block n children (places_from (n + 1) rest) i p at_i) [
  | inl x ↦ elim (block n children (places_from (n + 1) rest) j q at_j) [
    | inl y ↦ (0, i, j, small, x.0, y.0)
    | inr y ↦ absurd (let there = child_of (n + 1) rest y.0 q y.2 in omega (arith, there.2, x.1, same))
  ]
  | inr x ↦ elim (block n children (places_from (n + 1) rest) j q at_j) [
    | inl y ↦ absurd (omega (arith, x.1, y.2, small))
    | inr y ↦
        let there = twice (n + 1) rest x.0 y.0 p q (omega (arith, x.1, y.1, small)) x.2 y.2 same in
        (suc there.0, there.1, there.2, there.3, there.4, there.5)
  ]
]

at_left : {X : Type 0} (xs ys : List X) (i : ℕ) (x : X) → slice_get xs i ≡ Some x → slice_get (xs ++ ys) i ≡ Some x
at_left [] ys i x at = absurd cc
at_left (y ∷ xs) ys zero x at = at
at_left (y ∷ xs) ys (suc i) x at = at_left xs ys i x at

at_end : {X : Type 0} (xs ys : List X) (x : X) → slice_get (xs ++ x ∷ ys) (length xs) ≡ Some x
at_end [] ys x = refl
at_end (y ∷ xs) ys x = at_end xs ys x

either : (b : Bool) (x f : ℕ) (s : Option ℕ) (P : Type 0) → (b ≡ true → x ≡ f → P) → (s ≡ Some f → P) → (if b then Some x else s) ≡ Some f → P
either true x f s P here later h = here refl (let is : x ≡ f = cc in is)
either false x f s P here later h = later h

first_at : (ps : List Place) (c f : ℕ) → first_parent ps c ≡ Some f → (i : ℕ) × (slice_get ps i ≡ Some (record { parent = f; child = c }))
first_at [] c f h = absurd cc
first_at (p ∷ ps) c f h = either (p.child == c) p.parent f (first_parent ps c) ((i : ℕ) × (slice_get (p ∷ ps) i ≡ Some (record { parent = f; child = c }))) (λ is parent. (0, let child : p.child ≡ c = eqb-true p.child c is in subst (λ x. Some p ≡ Some (record { parent = x; child = c })) parent (subst (λ x. Some p ≡ Some (record { parent = p.parent; child = x })) child refl))) (λ later. let there = first_at ps c f later in (suc there.0, there.1)) h

-- what a fault says of the places of so many nodes
abbrev pub IsSeen : ℕ → List Place → HierarchyFault → Type 0
IsSeen count all (NoSuchChild p c) = (j : ℕ) × (slice_get all j ≡ Some (record { parent = p; child = c })) × (count ≤ c)
IsSeen count all (TwoParents c f q) = (i j : ℕ) × (i < j) × (slice_get all i ≡ Some (record { parent = f; child = c })) × (slice_get all j ≡ Some (record { parent = q; child = c }))
IsSeen count all TooManyNodes = ⊥
IsSeen count all (Cycle n) = ⊥
IsSeen count all (Memory e) = ⊥

seen_step : (b : Bool) (o : Option ℕ) (count : ℕ) (before rest : List Place) (p : Place) (g : HierarchyFault) (gs : List HierarchyFault) → nat_lt p.child count ≡ b → first_parent before p.child ≡ o → (if b then second_place p o else (NoSuchChild p.parent p.child ∷ [])) ++ faults_behind count (before ++ p ∷ []) rest ≡ g ∷ gs → (faults_behind count (before ++ p ∷ []) rest ≡ g ∷ gs → IsSeen count (before ++ p ∷ rest) g) → IsSeen count (before ++ p ∷ rest) g
seen_step true None count before rest p g gs is first e more = more e
seen_step true (Some f) count before rest p g gs is first e more =
    let there = first_at before p.child f first in
    let fault : TwoParents p.child f p.parent ≡ g = cc in
    let q : Place = record { parent = f; child = p.child } in
    subst (λ x. IsSeen count (before ++ p ∷ rest) x) fault (there.0, length before, slice_get_within before there.0 q there.1, at_left before (p ∷ rest) there.0 q there.1, at_end before rest p)
seen_step false o count before rest p g gs is first e more =
    let fault : NoSuchChild p.parent p.child ≡ g = cc in
    subst (λ x. IsSeen count (before ++ p ∷ rest) x) fault (length before, at_end before rest p, ltb-false p.child count is)

pub seen : (count : ℕ) (before rest : List Place) (g : HierarchyFault) (gs : List HierarchyFault) → faults_behind count before rest ≡ g ∷ gs → IsSeen count (before ++ rest) g
seen count before [] g gs e = absurd cc
seen count before (p ∷ rest) g gs e = seen_step (nat_lt p.child count) (first_parent before p.child) count before rest p g gs refl refl e (λ later. subst (λ xs. IsSeen count xs g) (append_assoc before (p ∷ []) rest) (seen count (before ++ p ∷ []) rest g gs later))
