use Rattle.std.proofs.Common.{◌≡◌, ℕ, ◌<◌, ◌+◌, ◌-◌, List, length, get_or, Option, Some, None, refl, sym, ◌∙◌, ap, subst, arith}
use Rattle.std.specs.Prelude.{slice_get}
use Rattle.std.proofs.Math.ListN.{set}
use Rattle.std.proofs.lemmas.Option.{slice_get-get_or}
use Rattle.gltf_hierarchy.specs.Forest.{forest_order, forest_parents}
use Rattle.gltf_hierarchy.specs.Order.{AreNodes, IsOrder}
use Rattle.gltf_hierarchy.specs.Shares.{AreShares, AreFirstsBefore, above, above_of}
use Rattle.std.proofs.lemmas.Grind.{get_or_default_zero}
use Rattle.gltf_hierarchy.proofs.Sharing.{above_at}
use Rattle.gltf_hierarchy.proofs.Numbering.{more_firsts, all_firsts}
use Rattle.gltf_hierarchy.proofs.numbers.firsts_of.Goals as goal

-- the node at a place gets its number, which is what was read
step : (parents : List (Option ℕ)) (read order sizes offsets firsts now : List ℕ) (k u x count : ℕ) (o : Option ℕ) → IsOrder parents order → AreNodes parents → AreShares parents order sizes offsets 0 → AreFirstsBefore parents order sizes offsets firsts k → read ≡ order → k < length read → count + 1 ≡ length offsets → o ≡ get_or parents (get_or read k 0) None → u ≡ above count o → x ≡ get_or firsts u x → now ≡ set firsts (get_or read k 0) (x + get_or offsets (get_or read k 0) 0) → AreFirstsBefore parents order sizes offsets now (k + 1)
step parents read order sizes offsets firsts now k u x count o ordered nodes s a same h len parent e is new =
    let n : ℕ = get_or read k 0 in
    let at : slice_get order k ≡ Some n = subst (λ xs. slice_get xs k ≡ Some n) same (slice_get-get_or read k 0 h) in
    let all : count ≡ length parents = omega (arith, len, s.offsets_len) in
    let up : u ≡ above_of parents n = e ∙ ap (above count) parent ∙ ap (λ y. above y (get_or parents n None)) all in
    let within : u < length firsts = omega (arith, up, (above_at parents order k n ordered nodes at).small, a.len) in
    let value : x ≡ get_or firsts (above_of parents n) 0 = is ∙ get_or_default_zero firsts u x within ∙ ap (λ y. get_or firsts y 0) up in
    subst (λ xs. AreFirstsBefore parents order sizes offsets xs (k + 1)) (sym (new ∙ ap (λ y. set firsts n (y + get_or offsets n 0)) value)) (more_firsts parents order sizes offsets firsts k n ordered nodes s a at)

pub loop-place-preserved : goal.loop-place-preserved
loop-place-preserved c = step (forest_parents c.args.forest.now) c.order-order.result.now (forest_order c.args.forest.now) c.args.sizes.now c.args.offsets.now c.loop-place.firsts.items _ c.loop-place.place c.above-above.result c.index.result.now (length c.args.offsets.now - 1) c.parent.result c.requires.order c.requires.nodes c.requires.shares c.loop-place.invariant c.order-order.ensures (omega arith) (omega (arith, c.requires.shares.offsets_len)) c.parent.ensures c.above-above.ensures c.index.ensures refl

pub returns : goal.returns
returns c = all_firsts (forest_parents c.args.forest.now) (forest_order c.args.forest.now) c.args.sizes.now c.args.offsets.now c.loop-place.firsts.items c.loop-place.place c.requires.order c.loop-place.invariant (omega (arith, ap length c.order-order.ensures))
