use Rattle.std.proofs.Common.{◌≡◌, ℕ, zero, suc, ◌+◌, List, [], ◌∷◌, ◌++◌, length, get_or, Some, None, Bool, true, false, map, refl, sym, ◌∙◌, ap, subst, arith, inl, inr, ◌⊎◌, append_assoc}
use Rattle.std.specs.Prelude.{slice_get}
use Rattle.std.proofs.lemmas.List.{map-append}
use Rattle.std.proofs.lemmas.Option.{slice_get_within}
use Rattle.std.proofs.lemmas.Bool.{cases_eq}
use Rattle.gltf_hierarchy.specs.declared.fault.HierarchyFault.{HierarchyFault}
use Rattle.gltf_hierarchy.specs.declared.fault.HierarchyFault.TheVariants.{Cycle}
use Rattle.gltf_hierarchy.specs.Listing.{AreMarked, AreAdded}
use Rattle.gltf_hierarchy.proofs.faults.add_cycles.Goals as goal
use Rattle.gltf_hierarchy.proofs.faults.add_cycles.Goals.{then-marks-node+in_ok-push, else-marks-node}

at_push : (xs : List ℕ) (x i y : ℕ) → slice_get (xs ++ x ∷ []) i ≡ Some y → (slice_get xs i ≡ Some y) ⊎ ((i ≡ length xs) × (y ≡ x))
at_push [] x zero y e = inr (refl, (let is : x ≡ y = cc in sym is))
at_push [] x (suc i) y e = absurd (let both : None ≡ Some y = e in cc)
at_push (z ∷ zs) x zero y e = inl e
at_push (z ∷ zs) x (suc i) y e = elim (at_push zs x i y e) [ inl h ↦ inl h | inr (at, is) ↦ inr (ap suc at, is) ]

push_old : (xs : List ℕ) (x i y : ℕ) → slice_get xs i ≡ Some y → slice_get (xs ++ x ∷ []) i ≡ Some y
push_old [] x i y e = absurd (let both : None ≡ Some y = e in cc)
push_old (z ∷ zs) x zero y e = e
push_old (z ∷ zs) x (suc i) y e = push_old zs x i y e

push_new : (xs : List ℕ) (x : ℕ) → slice_get (xs ++ x ∷ []) (length xs) ≡ Some x
push_new [] x = refl
push_new (z ∷ zs) x = push_new zs x

more_marked : (marks : List Bool) (cycles : List ℕ) (k : ℕ) → AreMarked marks cycles k → get_or marks k false ≡ true → AreMarked marks (cycles ++ k ∷ []) (k + 1)
more_marked marks cycles k m here = record {
  rising = λ i j a b h at there. elim (at_push cycles k j b there) [
    | inl early ↦ elim (at_push cycles k i a at) [
      | inl first ↦ m.rising i j a b h first early
      | inr (last, is) ↦ absurd (omega (arith, h, last, slice_get_within cycles j b early))
    ]
    | inr (last, is) ↦ elim (at_push cycles k i a at) [
      | inl first ↦ omega (arith, (m.marked i a first).0, is)
      | inr (same, is') ↦ absurd (omega (arith, h, last, same))
    ]
  ];
  marked = λ i n at. elim (at_push cycles k i n at) [
    | inl early ↦ let before = m.marked i n early in (omega (arith, before.0), before.1)
    | inr (last, is) ↦ (omega (arith, is), subst (λ x. get_or marks x false ≡ true) (sym is) here)
  ];
  each = λ n h at. elim (cases_eq n k) [
    | inl same ↦ (length cycles, push_new cycles k ∙ ap Some (sym same))
    | inr apart ↦ let before = m.each n (omega (arith, h, apart)) at in (before.0, push_old cycles k before.0 n before.1)
  ];
}

less_marked : (marks : List Bool) (cycles : List ℕ) (k : ℕ) → AreMarked marks cycles k → get_or marks k false ≡ false → AreMarked marks cycles (k + 1)
less_marked marks cycles k m here = record {
  rising = m.rising;
  marked = λ i n at. let before = m.marked i n at in (omega (arith, before.0), before.1);
  each = λ n h at. elim (cases_eq n k) [
    | inl same ↦ absurd (let both : true ≡ false = sym at ∙ ap (λ x. get_or marks x false) same ∙ here in cc)
    | inr apart ↦ m.each n (omega (arith, h, apart)) at
  ];
}

added : (before now after : List HierarchyFault) (marks : List Bool) (k : ℕ) → AreAdded before now marks k → get_or marks k false ≡ true → after ≡ now ++ Cycle k ∷ [] → AreAdded before after marks (k + 1)
added before now after marks k (cycles, e, m) here is =
    (cycles ++ k ∷ [], is ∙ ap (λ xs. xs ++ Cycle k ∷ []) e ∙ append_assoc before (map (λ n. Cycle n) cycles) (Cycle k ∷ []) ∙ ap (λ xs. before ++ xs) (sym (map-append (λ n. Cycle n) cycles (k ∷ []))), more_marked marks cycles k m here)

not_added : (before now after : List HierarchyFault) (marks : List Bool) (k : ℕ) → AreAdded before now marks k → get_or marks k false ≡ false → after ≡ now → AreAdded before after marks (k + 1)
not_added before now after marks k (cycles, e, m) here is = (cycles, is ∙ e, less_marked marks cycles k m here)

pub loop-node-preserved : goal.loop-node-preserved
loop-node-preserved c =
    elim c.if-marks-node.branch [
      | then-marks-node+in_ok-push w ↦ added c.args.faults.now.items c.loop-node.faults.items c.if-marks-node.faults.items c.args.marks.now c.loop-node.node c.loop-node.invariant w.if-marks-node.true (rw w.faults-is w.in_ok-push.ensures.items)
      | else-marks-node w ↦ not_added c.args.faults.now.items c.loop-node.faults.items c.if-marks-node.faults.items c.args.marks.now c.loop-node.node c.loop-node.invariant w.if-marks-node.false (rw w.faults-is refl)
    ]
