use Rattle.std.proofs.Common.{◌≡◌, ℕ, ◌<◌, ◌≤◌, ◌+◌, ◌-◌, List, length, get_or, replicate, Option, Some, None, sym, ◌∙◌, ap, subst, arith}
use Rattle.std.specs.Prelude.{slice_get}
use Rattle.std.proofs.Math.ListN.{set}
use Rattle.std.proofs.lemmas.Option.{slice_get-get_or}
use Rattle.gltf_hierarchy.specs.Forest.{forest_order, forest_parents}
use Rattle.gltf_hierarchy.specs.Order.{AreNodes, IsOrder}
use Rattle.gltf_hierarchy.specs.Shares.{AreShares, AreHeld, above, above_of}
use Rattle.gltf_hierarchy.proofs.Sharing.{above_at, fits, more_shares, more_held, first_shares, first_held, top_small}
use Rattle.gltf_hierarchy.proofs.shares.shares_of.Invariants.{IsSharing}
use Rattle.gltf_hierarchy.proofs.shares.shares_of.Goals as goal

-- the node at the last place before a bound, and the one above it
pub record IsNext (parents : List (Option ℕ)) (order sizes offsets : List ℕ) (k n u : ℕ) : Type 0 where
  pub at : slice_get order k ≡ Some n
  pub sharing : IsSharing parents order sizes offsets (k + 1)
  pub is : u ≡ above_of parents n

next : (parents : List (Option ℕ)) (read order sizes offsets : List ℕ) (b u count : ℕ) (o : Option ℕ) → read ≡ order → 0 < b → b ≤ length read → IsSharing parents order sizes offsets b → length parents ≡ count → o ≡ get_or parents (get_or read (b - 1) 0) None → u ≡ above count o → IsNext parents order sizes offsets (b - 1) (get_or read (b - 1) 0) u
next parents read order sizes offsets b u count o same some small s len parent e = record {
  at = subst (λ xs. slice_get xs (b - 1) ≡ Some (get_or read (b - 1) 0)) same (slice_get-get_or read (b - 1) 0 (omega (arith, some, small)));
  sharing = subst (λ x. IsSharing parents order sizes offsets x) (omega (arith, some)) s;
  is = e ∙ ap (above count) parent ∙ ap (λ x. above x (get_or parents (get_or read (b - 1) 0) None)) (sym len);
}

pub loop-place-init : goal.loop-place-init
loop-place-init c =
    let parents = forest_parents c.args.forest.now in
    let order = forest_order c.args.forest.now in
    let e : c.in_ok-sizes.sizes.items ≡ replicate (length parents + 1) 1 = c.in_ok-sizes.ensures ∙ ap (λ x. replicate (x + 1) 1) (sym c.requires.count) in
    let f : c.in_ok-offsets.offsets.items ≡ replicate (length parents + 1) 0 = c.in_ok-offsets.ensures ∙ ap (λ x. replicate (x + 1) 0) (sym c.requires.count) in
    let bound : length order ≤ length c.order-order.result.now = omega (arith, ap length c.order-order.ensures) in
    record {
      shares = first_shares parents order c.in_ok-sizes.sizes.items c.in_ok-offsets.offsets.items (length c.order-order.result.now) e f bound;
      held = first_held parents order c.in_ok-sizes.sizes.items (length c.order-order.result.now) c.requires.order e;
    }

pub give-requires-clause-node : goal.give-requires-clause-node
give-requires-clause-node c =
    let parents = forest_parents c.args.forest.now in
    let order = forest_order c.args.forest.now in
    let x = next parents c.order-order.result.now order c.loop-place.sizes.items c.loop-place.offsets.items c.loop-place.place c.above-above.result c.args.count c.parent.result c.order-order.ensures (omega arith) (omega arith) c.loop-place.invariant c.requires.count c.parent.ensures c.above-above.ensures in
    omega (arith, c.requires.order.nodes (c.loop-place.place - 1) (get_or c.order-order.result.now (c.loop-place.place - 1) 0) x.at, x.sharing.shares.sizes_len)

pub give-requires-clause-offset : goal.give-requires-clause-offset
give-requires-clause-offset c =
    let parents = forest_parents c.args.forest.now in
    let order = forest_order c.args.forest.now in
    let x = next parents c.order-order.result.now order c.loop-place.sizes.items c.loop-place.offsets.items c.loop-place.place c.above-above.result c.args.count c.parent.result c.order-order.ensures (omega arith) (omega arith) c.loop-place.invariant c.requires.count c.parent.ensures c.above-above.ensures in
    omega (arith, c.requires.order.nodes (c.loop-place.place - 1) (get_or c.order-order.result.now (c.loop-place.place - 1) 0) x.at, x.sharing.shares.offsets_len)

pub give-requires-clause-above : goal.give-requires-clause-above
give-requires-clause-above c =
    let parents = forest_parents c.args.forest.now in
    let order = forest_order c.args.forest.now in
    let x = next parents c.order-order.result.now order c.loop-place.sizes.items c.loop-place.offsets.items c.loop-place.place c.above-above.result c.args.count c.parent.result c.order-order.ensures (omega arith) (omega arith) c.loop-place.invariant c.requires.count c.parent.ensures c.above-above.ensures in
    let up = above_at parents order (c.loop-place.place - 1) (get_or c.order-order.result.now (c.loop-place.place - 1) 0) c.requires.order c.requires.nodes x.at in
    omega (arith, up.small, x.is, x.sharing.shares.sizes_len)

pub give-requires-clause-small : goal.give-requires-clause-small
give-requires-clause-small c =
    let parents = forest_parents c.args.forest.now in
    let order = forest_order c.args.forest.now in
    let n : ℕ = get_or c.order-order.result.now (c.loop-place.place - 1) 0 in
    let sizes : List ℕ = c.loop-place.sizes.items in
    let x = next parents c.order-order.result.now order sizes c.loop-place.offsets.items c.loop-place.place c.above-above.result c.args.count c.parent.result c.order-order.ensures (omega arith) (omega arith) c.loop-place.invariant c.requires.count c.parent.ensures c.above-above.ensures in
    let all : get_or sizes (above_of parents n) 0 + get_or sizes n 0 ≤ length parents + 1 = fits parents order sizes (c.loop-place.place - 1) n c.requires.order c.requires.nodes x.sharing.held x.at in
    let is : get_or sizes c.above-above.result 0 ≡ get_or sizes (above_of parents n) 0 = ap (λ y. get_or sizes y 0) x.is in
    omega (arith, all, is, c.requires.count, c.requires.few)

-- the node gets its share
step : (parents : List (Option ℕ)) (order sizes offsets new_sizes new_offsets : List ℕ) (k n u : ℕ) → IsOrder parents order → AreNodes parents → IsNext parents order sizes offsets k n u → new_sizes ≡ set sizes u (get_or sizes u 0 + get_or sizes n 0) → new_offsets ≡ set offsets n (get_or sizes u 0) → IsSharing parents order new_sizes new_offsets k
step parents order sizes offsets new_sizes new_offsets k n u ordered nodes x e f =
    let first : new_sizes ≡ set sizes (above_of parents n) (get_or sizes (above_of parents n) 0 + get_or sizes n 0) = e ∙ ap (λ y. set sizes y (get_or sizes y 0 + get_or sizes n 0)) x.is in
    let second : new_offsets ≡ set offsets n (get_or sizes (above_of parents n) 0) = f ∙ ap (λ y. set offsets n (get_or sizes y 0)) x.is in
    record {
      shares = subst (λ xs. AreShares parents order xs new_offsets k) (sym first) (subst (λ ys. AreShares parents order (set sizes (above_of parents n) (get_or sizes (above_of parents n) 0 + get_or sizes n 0)) ys k) (sym second) (more_shares parents order sizes offsets k n ordered nodes x.sharing.shares x.at));
      held = subst (λ xs. AreHeld parents order xs k) (sym first) (more_held parents order sizes k n ordered nodes x.sharing.shares.sizes_len x.sharing.held x.at);
    }

pub loop-place-preserved : goal.loop-place-preserved
loop-place-preserved c =
    let parents = forest_parents c.args.forest.now in
    let order = forest_order c.args.forest.now in
    let n : ℕ = get_or c.order-order.result.now (c.loop-place.place - 1) 0 in
    let x = next parents c.order-order.result.now order c.loop-place.sizes.items c.loop-place.offsets.items c.loop-place.place c.above-above.result c.args.count c.parent.result c.order-order.ensures (omega arith) (omega arith) c.loop-place.invariant c.requires.count c.parent.ensures c.above-above.ensures in
    step parents order c.loop-place.sizes.items c.loop-place.offsets.items c.give.new.sizes.items c.give.new.offsets.items (c.loop-place.place - 1) n c.above-above.result c.requires.order c.requires.nodes x c.give.ensures.sizes c.give.ensures.offsets

pub returns-clause-shares : goal.returns-clause-shares
returns-clause-shares c =
    subst (λ b. AreShares (forest_parents c.args.forest.now) (forest_order c.args.forest.now) c.loop-place.sizes.items c.loop-place.offsets.items b) (omega arith) c.loop-place.invariant.shares

pub returns-clause-small : goal.returns-clause-small
returns-clause-small c =
    let parents = forest_parents c.args.forest.now in
    let top : get_or c.loop-place.sizes.items (length parents) 0 ≤ length parents + 1 = top_small parents (forest_order c.args.forest.now) c.loop-place.sizes.items c.loop-place.place c.loop-place.invariant.held in
    subst (λ x. get_or c.loop-place.sizes.items x 0 ≤ x + 1) c.requires.count top
