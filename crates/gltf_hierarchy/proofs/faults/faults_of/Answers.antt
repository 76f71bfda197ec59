use Rattle.std.proofs.Common.{◌≡◌, ℕ, suc, ◌<◌, ◌≤◌, ◌+◌, List, [], ◌∷◌, ◌++◌, length, get_or, Option, Some, None, Bool, true, false, cond, eqb, map, refl, sym, ◌∙◌, ap, subst, arith, inl, inr, ◌⊎◌}
use Rattle.std.specs.Prelude.{◌↔◌}
use Rattle.std.proofs.lemmas.Grind.{common_steps}
use Rattle.std.proofs.lemmas.Option.{slice_get_within}
use Rattle.std.proofs.lemmas.Bool.{cases_lt}
use Rattle.gltf_hierarchy.specs.declared.fault.HierarchyFault.{HierarchyFault}
use Rattle.gltf_hierarchy.specs.declared.fault.HierarchyFault.TheVariants.{Cycle}
use Rattle.gltf_hierarchy.specs.Nodes.{IsChildAt}
use Rattle.gltf_hierarchy.specs.Order.{AreNodes}
use Rattle.gltf_hierarchy.specs.Forest.{IsForest}
use Rattle.gltf_hierarchy.specs.Parents.{AreParents}
use Rattle.gltf_hierarchy.specs.Cycles.{AreLowest, IsLowest, IsOnCycle}
use Rattle.gltf_hierarchy.specs.Faults.{Place, AreFaults, places_in, places_from, first_parent}
use Rattle.gltf_hierarchy.specs.Listing.{IsListed, IsFaultless, AreAdded, AreMarked}
use Rattle.gltf_hierarchy.proofs.Trees.{has_child, parent_of_child, above_is_below}
use Rattle.gltf_hierarchy.proofs.Meeting.{below_is_above}
use Rattle.gltf_hierarchy.proofs.Rounds.{back}
use Rattle.gltf_hierarchy.proofs.faults.faults_of.Goals as goal

-- ---- first parents are nodes

either : (b : Bool) (x q : ℕ) (s : Option ℕ) (P : Type 0) → (x ≡ q → P) → (s ≡ Some q → P) → cond b (Some x) s ≡ Some q → P
either true x q s P f g h = f (let is : x ≡ q = cc in is)
either false x q s P f g h = g h

first_in : (parent : ℕ) (children : List ℕ) (rest : List Place) (n q : ℕ) → first_parent (places_in parent children ++ rest) n ≡ Some q → (q ≡ parent) ⊎ (first_parent rest n ≡ Some q)
first_in parent [] rest n q h = inr h
first_in parent (c ∷ children) rest n q h = either (eqb c n) parent q (first_parent (places_in parent children ++ rest) n) ((q ≡ parent) ⊎ (first_parent rest n ≡ Some q)) (λ e. inl (sym e)) (first_in parent children rest n q) h

first_small : (nodes : List (List ℕ)) (k n q : ℕ) → first_parent (places_from k nodes) n ≡ Some q → q < k + length nodes
first_small [] k n q h = absurd (let both : None ≡ Some q = h in cc)
first_small (children ∷ rest) k n q h = elim (first_in k children (places_from (k + 1) rest) n q h) [
  | inl is ↦ omega (arith, is)
  | inr later ↦ omega (arith, first_small rest (k + 1) n q later)
]

first_nodes : (nodes : List (List ℕ)) (parents : List (Option ℕ)) (faults : List HierarchyFault) → IsListed (length nodes) (places_from 0 nodes) parents faults → AreNodes parents
first_nodes nodes parents faults l n p h =
    let small : n < length nodes = omega (arith, slice_get_within parents n (Some p) h, l.len) in
    let both : Some (first_parent (places_from 0 nodes) n) ≡ Some (Some p) = sym (l.each n small) ∙ h in
    let is : first_parent (places_from 0 nodes) n ≡ Some p = cc in
    omega (arith, first_small nodes 0 n p is, l.len)

-- ---- the list

marked_within : (marks : List Bool) (n : ℕ) → get_or marks n false ≡ true → n < length marks
marked_within marks n h = elim (cases_lt n (length marks)) [
  | inl small ↦ small
  | inr past ↦ absurd (let none : get_or marks n false ≡ false = grind (arith, common_steps) in let both : true ≡ false = sym h ∙ none in cc)
]

-- the lowest node of a cycle has its mark
mark_of : (parents : List (Option ℕ)) (marks : List Bool) (n : ℕ) → AreLowest parents marks → IsLowest parents n → get_or marks n false ≡ true
mark_of parents marks n a low =
    let there = a.each n low.on_cycle in
    let m : ℕ = there.0 in
    let up = back parents there.1 n m low.on_cycle there.3 in
    let le : n ≤ m = low.lowest there.1 m there.3 in
    let ge : m ≤ n = (a.marked m there.2).lowest up.0 n up.1 in
    let is : m ≡ n = omega (arith, le, ge) in
    subst (λ x. get_or marks x false ≡ true) is there.2

faults_are : (nodes : List (List ℕ)) (parents : List (Option ℕ)) (faults all : List HierarchyFault) (marks : List Bool) → IsListed (length nodes) (places_from 0 nodes) parents faults → AreLowest parents marks → AreAdded faults all marks (length marks) → AreFaults nodes all
faults_are nodes parents faults all marks l a (cycles, e, m) = record {
  parents = parents;
  first_parents = record { len = l.len; each = l.each };
  cycles = cycles;
  all = e ∙ ap (λ xs. xs ++ map (λ n. Cycle n) cycles) l.listed;
  rising = m.rising;
  lowest = λ i n at. a.marked n (m.marked i n at).1;
  each = λ n low. let here = mark_of parents marks n a low in m.each n (marked_within marks n here) here;
}

-- ---- no fault

no_cycles : (parents : List (Option ℕ)) (marks : List Bool) (n : ℕ) → AreLowest parents marks → AreMarked marks [] (length marks) → IsOnCycle parents n → ⊥
no_cycles parents marks n a m cycle =
    let there = a.each n cycle in
    let at = m.each there.0 (marked_within marks there.0 there.2) there.2 in
    let both : None ≡ Some there.0 = at.1 in cc

forest_of : (nodes : List (List ℕ)) (parents : List (Option ℕ)) → AreParents nodes parents → ((n : ℕ) → IsOnCycle parents n → ⊥) → IsForest nodes
forest_of nodes parents s none = record {
  exist = λ p i c h. omega (arith, slice_get_within parents c (Some p) (parent_of_child nodes parents p i c s h), s.len);
  one_parent = λ p q i j c hp hq.
      let both : Some (Some p) ≡ Some (Some q) = sym (parent_of_child nodes parents p i c s hp) ∙ parent_of_child nodes parents q j c s hq in
      let is : p ≡ q = cc in
      (is, s.once p i j c (has_child nodes p i c hp) hp (subst (λ x. IsChildAt nodes x j c) (sym is) hq));
  no_cycle = λ k n below. none n (k, below_is_above nodes parents (suc k) n n s below);
}

first_empty : (xs ys : List HierarchyFault) → xs ++ ys ≡ [] → xs ≡ []
first_empty [] ys e = refl
first_empty (x ∷ xs) ys e = cc

none_iff : (nodes : List (List ℕ)) (parents : List (Option ℕ)) (faults all : List HierarchyFault) (marks : List Bool) → IsFaultless nodes parents faults (length nodes) → AreLowest parents marks → AreAdded faults all marks (length marks) → (all ≡ []) ↔ IsForest nodes
none_iff nodes parents faults all marks (inr (some, none)) a (cycles, e, m) = ((λ h. absurd (some (first_empty faults (map (λ n. Cycle n) cycles) (sym e ∙ h)))), λ f. absurd (none f))
none_iff nodes parents faults all marks (inl (empty, s)) a ([], e, m) = ((λ h. forest_of nodes parents s (λ n cycle. no_cycles parents marks n a m cycle)), λ f. e ∙ ap (λ xs. xs ++ []) empty)
none_iff nodes parents faults all marks (inl (empty, s)) a (n ∷ rest, e, m) = (
  (λ h. absurd (let both : Cycle n ∷ map (λ x. Cycle x) rest ≡ [] = sym (ap (λ xs. xs ++ Cycle n ∷ map (λ x. Cycle x) rest) empty) ∙ sym e ∙ h in cc)),
  λ f. absurd (
      let low : IsLowest parents n = a.marked n (m.marked 0 n refl).1 in
      f.no_cycle low.on_cycle.0 n (above_is_below nodes parents (suc low.on_cycle.0) n n s low.on_cycle.1)),
)

pub lowest_of_cycles-requires-clause-nodes : goal.lowest_of_cycles-requires-clause-nodes
lowest_of_cycles-requires-clause-nodes g c = subst (λ xs. AreNodes xs) (sym c.deref.ensures.value) (first_nodes (g.H.Hierarchy.children c.args.nodes.now) c.in_ok-parents.parents.items c.first_parents.new.faults.items c.in_ok-parents.ensures.listed)

pub returns-clause-faults : goal.returns-clause-faults
returns-clause-faults g c =
    let lowest : AreLowest c.in_ok-parents.parents.items c.in_ok-marks.marks.items = subst (λ xs. AreLowest xs c.in_ok-marks.marks.items) c.deref.ensures.value c.in_ok-marks.ensures in
    let added : AreAdded c.first_parents.new.faults.items c.add_cycles.new.faults.items c.in_ok-marks.marks.items (length c.in_ok-marks.marks.items) = subst (λ xs. AreAdded c.first_parents.new.faults.items c.add_cycles.new.faults.items xs (length xs)) c.deref-2.ensures.value c.in_ok-add_cycles.ensures in
    faults_are (g.H.Hierarchy.children c.args.nodes.now) c.in_ok-parents.parents.items c.first_parents.new.faults.items c.add_cycles.new.faults.items c.in_ok-marks.marks.items c.in_ok-parents.ensures.listed lowest added

pub returns-clause-none : goal.returns-clause-none
returns-clause-none g c =
    let lowest : AreLowest c.in_ok-parents.parents.items c.in_ok-marks.marks.items = subst (λ xs. AreLowest xs c.in_ok-marks.marks.items) c.deref.ensures.value c.in_ok-marks.ensures in
    let added : AreAdded c.first_parents.new.faults.items c.add_cycles.new.faults.items c.in_ok-marks.marks.items (length c.in_ok-marks.marks.items) = subst (λ xs. AreAdded c.first_parents.new.faults.items c.add_cycles.new.faults.items xs (length xs)) c.deref-2.ensures.value c.in_ok-add_cycles.ensures in
    none_iff (g.H.Hierarchy.children c.args.nodes.now) c.in_ok-parents.parents.items c.first_parents.new.faults.items c.add_cycles.new.faults.items c.in_ok-marks.marks.items c.in_ok-parents.ensures.faultless lowest added
