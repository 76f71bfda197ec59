use Rattle.std.proofs.Common.{rules, ◌≡◌, ◌^◌, ℕ, ◌<◌, ◌≤◌, ◌+◌, ◌-◌, List, length, get_or, Option, Some, None, sym, ◌∙◌, ap, subst, arith}
use Rattle.std.specs.Prelude.{slice_get}
use Rattle.std.proofs.lemmas.Grind.{get_or_default_zero}
use Rattle.std.proofs.lemmas.Option.{slice_get-get_or, slice_get_within}
use Rattle.gltf_hierarchy.specs.Order.{IsOrder, IsParent}
use Rattle.gltf_hierarchy.specs.Joints.{AreAllNodes}
use Rattle.gltf_hierarchy.specs.Gathering.{AreCounted, IsGathering}
use Rattle.gltf_hierarchy.proofs.Above.{parent_read}
use Rattle.gltf_hierarchy.proofs.Carrying.{gathering, found, apart_trees, none_left, moved, skipped, part, both_within}
use Rattle.gltf_hierarchy.proofs.joints.root_over.Goals as goal

all_nodes : (count : ℕ) (joints counts : List ℕ) → AreCounted count joints counts (length joints) → AreAllNodes count joints
all_nodes count joints counts a k n e = (a.each k n (slice_get_within joints k n e) e).0

-- the node at the last place before a bound
at_last : (order : List ℕ) (b : ℕ) → 0 < b → b ≤ length order → slice_get order (b - 1) ≡ Some (get_or order (b - 1) 0)
at_last order b some small = slice_get-get_or order (b - 1) 0 (omega (arith, some, small))

to_last : (parents : List (Option ℕ)) (order joints counts : List ℕ) (b : ℕ) → 0 < b → IsGathering parents order joints counts b → IsGathering parents order joints counts (b - 1 + 1)
to_last parents order joints counts b some g = subst (λ x. IsGathering parents order joints counts x) (omega (arith, some)) g

node_within : (parents : List (Option ℕ)) (order : List ℕ) (b : ℕ) → IsOrder parents order → 0 < b → b ≤ length order → get_or order (b - 1) 0 < length parents
node_within parents order b o some small = o.nodes (b - 1) (get_or order (b - 1) 0) (at_last order b some small)

-- what was read is what the definitions read
from_read : (xs : List ℕ) (i x : ℕ) → i < length xs → x ≡ get_or xs i x → get_or xs i 0 ≡ x
from_read xs i x h e = sym (get_or_default_zero xs i x h) ∙ sym e

here_is : (parents : List (Option ℕ)) (order joints counts : List ℕ) (b here : ℕ) → IsOrder parents order → IsGathering parents order joints counts b → 0 < b → b ≤ length order → here ≡ get_or counts (get_or order (b - 1) 0) here → get_or counts (get_or order (b - 1) 0) 0 ≡ here
here_is parents order joints counts b here o g some small e = from_read counts (get_or order (b - 1) 0) here (omega (arith, node_within parents order b o some small, g.len)) e

pub loop-place-init : goal.loop-place-init
loop-place-init c = gathering c.args.parents.now c.args.order.now c.args.joints.now c.in_ok-counts.counts.items c.requires.order c.in_ok-counts.ensures.counted

pub index-here-requires : goal.index-here-requires
index-here-requires c = omega (arith, node_within c.args.parents.now c.args.order.now c.loop-place.place c.requires.order (omega arith) (omega arith), c.loop-place.invariant.len, c.loop-place.counts.ok.0)

pub returns-then-here-joints-clause-root : goal.returns-then-here-joints-clause-root
returns-then-here-joints-clause-root c =
    let is = here_is c.args.parents.now c.args.order.now c.args.joints.now c.loop-place.counts.items c.loop-place.place c.index-here.result.now c.requires.order c.loop-place.invariant (omega arith) (omega arith) c.index-here.ensures in
    found c.args.parents.now c.args.order.now c.args.joints.now c.loop-place.counts.items c.loop-place.place (get_or c.args.order.now (c.loop-place.place - 1) 0) c.loop-place.invariant (is ∙ c.if-here-joints.true) (search rules)

pub returns-then-here-joints-clause-nodes : goal.returns-then-here-joints-clause-nodes
returns-then-here-joints-clause-nodes c = all_nodes (length c.args.parents.now) c.args.joints.now c.in_ok-counts.counts.items c.in_ok-counts.ensures.counted

pub bounds : goal.bounds
bounds c = node_within c.args.parents.now c.args.order.now c.loop-place.place c.requires.order (omega arith) (omega arith)

-- a node that has some of the joints, and not all
pub record IsPart (parents : List (Option ℕ)) (order joints counts : List ℕ) (b n : ℕ) : Type 0 where
  pub at : slice_get order (b - 1) ≡ Some n
  pub gathering : IsGathering parents order joints counts (b - 1 + 1)
  pub some : 0 < get_or counts n 0
  pub less : get_or counts n 0 < length joints

part_of : (parents : List (Option ℕ)) (order joints counts : List ℕ) (b here : ℕ) → IsOrder parents order → IsGathering parents order joints counts b → 0 < b → b ≤ length order → here ≡ get_or counts (get_or order (b - 1) 0) here → (here ≡ 0 → ⊥) → (here ≡ length joints → ⊥) → IsPart parents order joints counts b (get_or order (b - 1) 0)
part_of parents order joints counts b here o g some small e not_none not_all =
    let n : ℕ = get_or order (b - 1) 0 in
    let is : get_or counts n 0 ≡ here = here_is parents order joints counts b here o g some small e in
    let le : get_or counts n 0 ≤ length joints = omega (arith, part counts n, g.total) in
    record {
      at = at_last order b some small;
      gathering = to_last parents order joints counts b some g;
      some = omega (arith, is, not_none);
      less = omega (arith, is, not_all, le);
    }

pub returns-in-None-clause-nodes : goal.returns-in-None-clause-nodes
returns-in-None-clause-nodes c = all_nodes (length c.args.parents.now) c.args.joints.now c.in_ok-counts.counts.items c.in_ok-counts.ensures.counted

pub returns-in-None-clause-root : goal.returns-in-None-clause-root
returns-in-None-clause-root c =
    let n : ℕ = get_or c.args.order.now (c.loop-place.place - 1) 0 in
    let p = part_of c.args.parents.now c.args.order.now c.args.joints.now c.loop-place.counts.items c.loop-place.place c.index-here.result.now c.requires.order c.loop-place.invariant (omega arith) (omega arith) c.index-here.ensures c.if-here-ne0.true c.if-here-joints.false in
    let small : n < length c.args.parents.now = node_within c.args.parents.now c.args.order.now c.loop-place.place c.requires.order (omega arith) (omega arith) in
    let root : slice_get c.args.parents.now n ≡ Some None = slice_get-get_or c.args.parents.now n None small ∙ ap Some c.in-None.is in
    apart_trees c.args.parents.now c.args.order.now c.args.joints.now c.loop-place.counts.items (c.loop-place.place - 1) n c.requires.order p.gathering p.at root p.some p.less

-- the parent of this node is another, before it
above_apart : (parents : List (Option ℕ)) (order : List ℕ) (k n p : ℕ) → IsOrder parents order → slice_get order k ≡ Some n → IsParent parents n p → n ≡ p → ⊥
above_apart parents order k n p o at parent e =
    let up = o.parents_first k n p at parent in
    let same : k ≡ up.0 = o.once k up.0 n at (up.2 ∙ ap Some (sym e)) in
    omega (arith, same, up.1)

pub carry-requires-clause-parent : goal.carry-requires-clause-parent
carry-requires-clause-parent c =
    let n : ℕ = get_or c.args.order.now (c.loop-place.place - 1) 0 in
    omega (arith, c.requires.nodes n c.in-Some.parent (parent_read c.args.parents.now n c.in-Some.parent c.in-Some.is), c.loop-place.invariant.len)

pub carry-requires-clause-apart : goal.carry-requires-clause-apart
carry-requires-clause-apart c =
    let n : ℕ = get_or c.args.order.now (c.loop-place.place - 1) 0 in
    above_apart c.args.parents.now c.args.order.now (c.loop-place.place - 1) n c.in-Some.parent c.requires.order (at_last c.args.order.now c.loop-place.place (omega arith) (omega arith)) (parent_read c.args.parents.now n c.in-Some.parent c.in-Some.is)

pub carry-requires-clause-small : goal.carry-requires-clause-small
carry-requires-clause-small c =
    let n : ℕ = get_or c.args.order.now (c.loop-place.place - 1) 0 in
    let apart = above_apart c.args.parents.now c.args.order.now (c.loop-place.place - 1) n c.in-Some.parent c.requires.order (at_last c.args.order.now c.loop-place.place (omega arith) (omega arith)) (parent_read c.args.parents.now n c.in-Some.parent c.in-Some.is) in
    let few : length c.args.joints.now < 2 ^ 64 = search rules in
    omega (arith, few, both_within c.loop-place.counts.items n c.in-Some.parent (λ e. apart (sym e)), c.loop-place.invariant.total)

pub loop-place-preserved-in-Some : goal.loop-place-preserved-in-Some
loop-place-preserved-in-Some c =
    let n : ℕ = get_or c.args.order.now (c.loop-place.place - 1) 0 in
    let p = part_of c.args.parents.now c.args.order.now c.args.joints.now c.loop-place.counts.items c.loop-place.place c.index-here.result.now c.requires.order c.loop-place.invariant (omega arith) (omega arith) c.index-here.ensures c.if-here-ne0.true c.if-here-joints.false in
    subst (λ xs. IsGathering c.args.parents.now c.args.order.now c.args.joints.now xs (c.loop-place.place - 1)) (sym c.carry.ensures) (moved c.args.parents.now c.args.order.now c.args.joints.now c.loop-place.counts.items (c.loop-place.place - 1) n c.in-Some.parent c.requires.order p.gathering p.at (parent_read c.args.parents.now n c.in-Some.parent c.in-Some.is) p.some p.less)

pub loop-place-preserved : goal.loop-place-preserved
loop-place-preserved c =
    let is = here_is c.args.parents.now c.args.order.now c.args.joints.now c.loop-place.counts.items c.loop-place.place c.index-here.result.now c.requires.order c.loop-place.invariant (omega arith) (omega arith) c.index-here.ensures in
    skipped c.args.parents.now c.args.order.now c.args.joints.now c.loop-place.counts.items (c.loop-place.place - 1) (get_or c.args.order.now (c.loop-place.place - 1) 0) (to_last c.args.parents.now c.args.order.now c.args.joints.now c.loop-place.counts.items c.loop-place.place (omega arith) c.loop-place.invariant) (at_last c.args.order.now c.loop-place.place (omega arith) (omega arith)) (is ∙ c.if-here-ne0.false)

pub returns-clause-root : goal.returns-clause-root
returns-clause-root c = none_left c.args.parents.now c.args.order.now c.args.joints.now c.loop-place.counts.items c.loop-place.place c.loop-place.invariant (omega arith) (search rules)
