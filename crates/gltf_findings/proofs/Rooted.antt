-- Nodes are disjoint strict trees if nothing is found of their hierarchy.
use Rattle.std.proofs.Common.{◌≡◌, ℕ, zero, suc, ◌+◌, ◌<◌, ◌≤◌, ◌^◌, List, [], ◌∷◌, ◌++◌, length, map, get_or, Bool, true, false, not, Option, Some, None, refl, sym, ◌∙◌, ap, subst, arith, inl, inr}
use Rattle.std.specs.Global.{Vec}
use Rattle.std.specs.Prelude.{slice_get, option_map, nat_le, ◌==◌, ◌↔◌}
use Rattle.std.proofs.lemmas.Bool.{leb-false, eqb-true, not-false, both_ways}
use Rattle.std.proofs.lemmas.Option.{slice_get-map}
use Rattle.gltf_base.specs.declared.index.IndexTo.{IndexTo}
use Rattle.gltf_base.specs.Indexes.{index_number}
use Rattle.gltf_hierarchy.specs.declared.fault.HierarchyFault.{HierarchyFault}
use Rattle.gltf_hierarchy.specs.declared.fault.HierarchyFault.TheVariants.{TooManyNodes, NoSuchChild, TwoParents, Cycle, Memory}
use Rattle.gltf_hierarchy.specs.Nodes.{children_of}
use Rattle.gltf_hierarchy.specs.Faults.{AreFaults, Place, place_faults, places_from}
use Rattle.gltf_hierarchy.specs.Forest.{IsForest}
use Rattle.gltf_scene.specs.declared.scene.Node.{Node}
use Rattle.gltf_load.specs.Named.{children_named, numbers_in}
use Rattle.gltf_findings_codes.specs.declared.code.Code.TheVariants.{UnresolvedReference, NodeParentOverride, NodeLoop}
use Rattle.gltf_findings_codes.specs.declared.name.Name.TheVariants.{Nodes, Children}
use Rattle.gltf_findings_codes.specs.declared.finding.Object.TheVariants.{Item}
use Rattle.gltf_findings_codes.specs.declared.finding.Subject.TheVariants.{Object, Member, Entry}
use Rattle.gltf_findings_codes.specs.Found.{broken, found, findings_from}
use Rattle.gltf_findings_codes.specs.Rules.{is_unresolved, reference_findings}
use Rattle.gltf_findings_codes.specs.Without.{are_without}
use Rattle.gltf_findings_codes.proofs.Without.{without_append, without_from}
use Rattle.gltf_findings_rules.specs.Nodes.{node_at, child_findings, child_repeat_findings}
use Rattle.gltf_findings.specs.Absent.{is_of_hierarchy}
use Rattle.gltf_findings.specs.Hierarchy.{fault_finding}
use Rattle.gltf_findings.proofs.Unbroken.{absent, unbroken}
use Rattle.gltf_findings.proofs.Repeating.{once}
use Rattle.gltf_findings.proofs.Standing.{IsSeen, seen, child_of, twice}

-- what is found of the children of a node is absent
pub record AreQuiet (nodes : List Node) : Type 0 where
  pub resolved : (m : ℕ) (x : Node) → slice_get nodes m ≡ Some x → (n : ℕ) × (are_without is_of_hierarchy (child_findings (length nodes) n x.children) ≡ true)
  pub unrepeated : (m : ℕ) (x : Node) → slice_get nodes m ≡ Some x → (n : ℕ) × (are_without is_of_hierarchy (child_repeat_findings n x.children) ≡ true)

named_child : (nodes : List Node) (m i c : ℕ) → slice_get (children_of (children_named nodes) m) i ≡ Some c → (x : Node) × (slice_get nodes m ≡ Some x) × (slice_get (numbers_in x.children) i ≡ Some c)
named_child [] zero i c at = absurd cc
named_child [] (suc m) i c at = absurd cc
named_child (x ∷ xs) zero i c at = (x, refl, at)
named_child (x ∷ xs) (suc m) i c at = named_child xs m i c at

mapped : {X Y : Type 0} (f : X → Y) (o : Option X) (y : Y) → option_map f o ≡ Some y → (x : X) × (o ≡ Some x) × (f x ≡ y)
mapped f None y h = absurd cc
mapped f (Some x) y h = (x, refl, let is : f x ≡ y = cc in is)

child_small : {P : Type 0} (o : Option (Vec (IndexTo P))) (nodes n : ℕ) → are_without is_of_hierarchy (child_findings nodes n o) ≡ true → (i c : ℕ) → slice_get (numbers_in o) i ≡ Some c → c < nodes
child_small None nodes n h i c at = absurd cc
child_small (Some xs) nodes n h i c at =
    let there = mapped index_number (slice_get xs.items i) c (sym (slice_get-map index_number xs.items i) ∙ at) in
    let here = without_from is_of_hierarchy (reference_findings (node_at n) Children nodes) 0 xs.items i there.0 h there.1 in
    let rules = broken (is_unresolved nodes there.0) UnresolvedReference (Entry (node_at n) Children (0 + i)) ∷ [] in
    let is : nat_le nodes (index_number there.0) ≡ false = unbroken is_of_hierarchy rules 0 (is_unresolved nodes there.0) UnresolvedReference (Entry (node_at n) Children (0 + i)) refl refl here in
    subst (λ x. x < nodes) there.2 (leb-false nodes (index_number there.0) is)

child_once : {P : Type 0} (o : Option (Vec (IndexTo P))) (n : ℕ) → are_without is_of_hierarchy (child_repeat_findings n o) ≡ true → (a b c : ℕ) → a < b → slice_get (numbers_in o) a ≡ Some c → slice_get (numbers_in o) b ≡ Some c → ⊥
child_once None n h a b c small at_a at_b = cc
child_once (Some xs) n h a b c small at_a at_b = once (node_at n) Children [] 0 (map index_number xs.items) h a b c small at_a at_b

refuted_child : (nodes : List Node) (m i c : ℕ) → AreQuiet nodes → slice_get (children_of (children_named nodes) m) i ≡ Some c → c < length nodes
refuted_child nodes m i c q at =
    let x = named_child nodes m i c at in
    let quiet = q.resolved m x.0 x.1 in
    child_small x.0.children (length nodes) quiet.0 quiet.1 i c x.2

refuted_twice : (nodes : List Node) (m a b c : ℕ) → AreQuiet nodes → a < b → slice_get (children_of (children_named nodes) m) a ≡ Some c → slice_get (children_of (children_named nodes) m) b ≡ Some c → ⊥
refuted_twice nodes m a b c q small at_a at_b =
    let x = named_child nodes m a c at_a in
    let y = named_child nodes m b c at_b in
    let both : Some x.0 ≡ Some y.0 = sym x.1 ∙ y.1 in
    let same : x.0 ≡ y.0 = cc in
    let quiet = q.unrepeated m x.0 x.1 in
    child_once x.0.children quiet.0 quiet.1 a b c small x.2 (subst (λ z. slice_get (numbers_in z.children) b ≡ Some c) (sym same) y.2)

-- no fault of a place comes first
refuted : (nodes : List Node) (count : ℕ) (g : HierarchyFault) (rest : List HierarchyFault) → count ≡ length nodes → AreQuiet nodes → are_without is_of_hierarchy (found (map fault_finding (g ∷ rest))) ≡ true → IsSeen count (places_from 0 (children_named nodes)) g → ⊥
refuted nodes count (NoSuchChild p c) rest e q h (j, at, large) =
    let there = child_of 0 (children_named nodes) j (record { parent = p; child = c }) at in
    omega (arith, refuted_child nodes there.0 there.1 c q there.3, large, e)
refuted nodes count (TwoParents c f s) rest e q h (i, j, small, at_i, at_j) =
    let same : f ≡ s = eqb-true f s (not-false (f == s) (unbroken is_of_hierarchy (map fault_finding (TwoParents c f s ∷ rest)) 0 (not (f == s)) NodeParentOverride (Member (Item Nodes s) Children) refl refl h)) in
    let there = twice 0 (children_named nodes) i j (record { parent = f; child = c }) (record { parent = s; child = c }) small at_i at_j same in
    refuted_twice nodes there.0 there.1 there.2 c q there.3 there.4 there.5
refuted nodes count TooManyNodes rest e q h s = s
refuted nodes count (Cycle n) rest e q h s = s
refuted nodes count (Memory x) rest e q h s = s

no_cycle : (n : ℕ) (rest : List HierarchyFault) → are_without is_of_hierarchy (found (map fault_finding (Cycle n ∷ rest))) ≡ true → ⊥
no_cycle n rest h = both_ways true (absent is_of_hierarchy (map fault_finding (Cycle n ∷ rest)) 0 (record { code = NodeLoop; place = Object (Item Nodes n) }) refl h) refl

first_cycle : (g : HierarchyFault) (gs : List HierarchyFault) (cycles : List ℕ) → g ∷ gs ≡ map (λ n. Cycle n) cycles → are_without is_of_hierarchy (found (map fault_finding (g ∷ gs))) ≡ true → ⊥
first_cycle g gs [] e h = cc
first_cycle g gs (n ∷ ns) e h = no_cycle n (map (λ k. Cycle k) ns) (subst (λ xs. are_without is_of_hierarchy (found (map fault_finding xs)) ≡ true) e h)

first_place : (nodes : List Node) (g : HierarchyFault) (gs cycles behind : List HierarchyFault) → AreQuiet nodes → g ∷ gs ≡ behind ++ cycles → behind ≡ place_faults (children_named nodes) → length (children_named nodes) ≡ length nodes → are_without is_of_hierarchy (found (map fault_finding (g ∷ gs))) ≡ true → ((g ∷ gs ≡ cycles) → ⊥) → ⊥
first_place nodes g gs cycles [] q e places len h none = none e
first_place nodes g gs cycles (x ∷ xs) q e places len h none =
    let is : g ≡ x = cc in
    let s = seen (length (children_named nodes)) [] (places_from 0 (children_named nodes)) x xs (sym places) in
    refuted nodes (length (children_named nodes)) g gs len q h (subst (λ y. IsSeen (length (children_named nodes)) (places_from 0 (children_named nodes)) y) (sym is) s)

pub no_faults : (nodes : List Node) (faults : List HierarchyFault) → AreQuiet nodes → length (children_named nodes) ≡ length nodes → AreFaults (children_named nodes) faults → are_without is_of_hierarchy (found (map fault_finding faults)) ≡ true → faults ≡ []
no_faults nodes [] q len a h = refl
no_faults nodes (g ∷ gs) q len a h = absurd (first_place nodes g gs (map (λ n. Cycle n) a.cycles) (place_faults (children_named nodes)) q a.all refl len h (λ e. first_cycle g gs a.cycles e h))
