use Rattle.std.proofs.Common.{◌≡◌, ℕ, ◌<◌, ◌+◌, ◌-◌, List, [], length, Option, Some, None, arith, refl, sym, ◌∙◌, ap, subst, get_or, inl, inr, replicate}
use Rattle.std.proofs.lemmas.Bool.{cases_lt}
use Rattle.std.proofs.lemmas.List.{get_or-replicate, length-replicate}
use Rattle.std.proofs.lemmas.Option.{slice_get-get_or, slice_get_within, get_or_from_slice_get}
use Rattle.gltf_hierarchy.specs.Sorting.{AreSorted, IsRested}
use Rattle.gltf_hierarchy.specs.Order.{IsOrder}
use Rattle.gltf_hierarchy.specs.declared.sorter.Sorter.{Sorter}
use Rattle.gltf_hierarchy.proofs.Steps.{past_end, within}
use Rattle.gltf_hierarchy.proofs.sorter.order_of.Goals as goal

zeros : (n i : ℕ) → get_or (replicate {A = ℕ} n 0) i 0 ≡ 0
zeros n i = elim (cases_lt i n) [ inl small ↦ get_or-replicate n i 0 0 small | inr past ↦ past_end (replicate {A = ℕ} n 0) i (omega (arith, length-replicate {A = ℕ} n 0)) ]

new_sorted : (parents : List (Option ℕ)) (places steps order chain : List ℕ) → places ≡ replicate (length parents) 0 → steps ≡ replicate (length parents) 0 → order ≡ [] → chain ≡ [] → AreSorted parents places steps order chain
new_sorted parents places steps order chain p s o c = record {
  places_len = ap length p ∙ length-replicate (length parents) 0;
  steps_len = ap length s ∙ length-replicate (length parents) 0;
  placed = λ n h. absurd (let none : get_or places n 0 ≡ 0 = rw p (zeros (length parents) n) in omega (arith, none, h));
  ordered = λ i h. absurd (let none : length order ≡ 0 = rw o refl in omega (arith, none, h));
  parents_placed = λ n q h. absurd (let none : get_or places n 0 ≡ 0 = rw p (zeros (length parents) n) in omega (arith, none, h));
  found = λ n h. absurd (let none : get_or steps n 0 ≡ 0 = rw s (zeros (length parents) n) in omega (arith, none, h));
  stepped = λ j h. absurd (let none : length chain ≡ 0 = rw c refl in omega (arith, none, h));
  linked = λ j h. absurd (let none : length chain ≡ 0 = rw c refl in omega (arith, none, h));
}

pub loop-start-init : goal.loop-start-init
loop-start-init c =
    let new = c.in-Ok.ensures in
    record { rested = record { holds = new_sorted c.args.parents.now c.in-Ok.sorter.places.items c.in-Ok.sorter.steps.items c.in-Ok.sorter.order.items c.in-Ok.sorter.chain.items new.places new.steps new.order new.chain; empty = rw new.chain refl }; done = λ n h. absurd (omega (arith, h)) }

-- once each node has its place
all_ordered : (parents : List (Option ℕ)) (places steps order chain : List ℕ) → AreSorted parents places steps order chain → ((n : ℕ) → n < length parents → 0 < get_or places n 0) → IsOrder parents order
all_ordered parents places steps order chain s done = record {
  nodes = λ i n h.
      let e : get_or order i 0 ≡ n = get_or_from_slice_get order i n 0 h in
      let at : get_or places n 0 ≡ i + 1 = rw e at (s.ordered i (slice_get_within order i n h)) in
      omega (arith, within places n (omega (arith, at)), s.places_len);
  each = λ n h. let p = s.placed n (done n h) in (get_or places n 0 - 1, slice_get-get_or order (get_or places n 0 - 1) 0 (omega (arith, p.0, done n h)) ∙ ap Some p.1);
  once = λ i j n h k.
      let e : get_or order i 0 ≡ n = get_or_from_slice_get order i n 0 h in
      let f : get_or order j 0 ≡ n = get_or_from_slice_get order j n 0 k in
      let at : get_or places n 0 ≡ i + 1 = rw e at (s.ordered i (slice_get_within order i n h)) in
      let at' : get_or places n 0 ≡ j + 1 = rw f at (s.ordered j (slice_get_within order j n k)) in
      omega (arith, at, at');
  parents_first = λ i n p h parent.
      let e : get_or order i 0 ≡ n = get_or_from_slice_get order i n 0 h in
      let at : get_or places n 0 ≡ i + 1 = rw e at (s.ordered i (slice_get_within order i n h)) in
      let above = s.parents_placed n p (omega (arith, at)) (get_or_from_slice_get parents n (Some p) None parent) in
      let there = s.placed p above.0 in
      (get_or places p 0 - 1, omega (arith, at, above.1, above.0), slice_get-get_or order (get_or places p 0 - 1) 0 (omega (arith, there.0, above.0)) ∙ ap Some there.1);
}

-- where the chain is empty, what was in it has its place
stepped_placed : (parents : List (Option ℕ)) (s : Sorter) (n : ℕ) → IsRested parents s → 0 < get_or s.steps.items n 0 → 0 < get_or s.places.items n 0
stepped_placed parents s n r h = elim (cases_lt 0 (get_or s.places.items n 0)) [
  | inl some ↦ some
  | inr none ↦ absurd (omega (arith, (r.holds.found n h (omega (arith, none))).0, h, r.empty))
]

pub loop-start-preserved : goal.loop-start-preserved
loop-start-preserved c =
    let climb = c.in_ok-climb.ensures in
    let place = c.in_default.ensures in
    record {
      rested = place.rested;
      done = λ n h. elim (cases_lt n c.loop-start.start) [
        | inl early ↦ place.more n (rw climb.kept (c.loop-start.invariant.done n early))
        | inr late ↦
            let e : n ≡ c.loop-start.start = omega (arith, h, late) in
            subst (λ x. 0 < get_or c.place.new.self.places.items x 0) (sym e) (elim climb.reached [
              | inl placed ↦ place.more c.loop-start.start placed
              | inr stepped ↦ stepped_placed c.args.parents.now c.place.new.self c.loop-start.start place.rested (rw place.kept stepped)
            ])
      ];
    }

pub returns-clause-ordered : goal.returns-clause-ordered
returns-clause-ordered c = all_ordered c.args.parents.now c.loop-start.sorter.places.items c.loop-start.sorter.steps.items c.loop-start.sorter.order.items c.loop-start.sorter.chain.items c.loop-start.invariant.rested.holds (λ n h. c.loop-start.invariant.done n (omega (arith, h)))
