use Rattle.std.proofs.Common.{◌≡◌, ℕ, ◌<◌, ◌+◌, List, length, get_or, Option, Some, None, sym, ◌∙◌, ap, subst, arith}
use Rattle.std.specs.Prelude.{slice_get}
use Rattle.std.proofs.Math.ListN.{set}
use Rattle.std.proofs.lemmas.Option.{slice_get-get_or}
use Rattle.gltf_hierarchy.specs.Forest.{forest_order, forest_parents}
use Rattle.gltf_hierarchy.specs.Order.{IsOrder}
use Rattle.gltf_hierarchy.specs.Roots.{AreRootsBefore, root_under}
use Rattle.gltf_hierarchy.proofs.Rooting.{more_roots, all_roots}
use Rattle.gltf_hierarchy.proofs.roots.roots_of.Goals as goal

-- the node at a place gets its root, which is what was found
step : (parents : List (Option ℕ)) (read order roots seen : List ℕ) (k x : ℕ) (o : Option ℕ) → IsOrder parents order → AreRootsBefore parents order roots k → read ≡ order → k < length read → o ≡ get_or parents (get_or read k 0) None → seen ≡ roots → x ≡ root_under (get_or read k 0) o seen → AreRootsBefore parents order (set roots (get_or read k 0) x) (k + 1)
step parents read order roots seen k x o ordered a same h parent e is =
    let n : ℕ = get_or read k 0 in
    let at : slice_get order k ≡ Some n = subst (λ xs. slice_get xs k ≡ Some n) same (slice_get-get_or read k 0 h) in
    let there : slice_get parents n ≡ Some (get_or parents n None) = slice_get-get_or parents n None (ordered.nodes k n at) in
    let value : x ≡ root_under n (get_or parents n None) roots = is ∙ ap (λ y. root_under n y seen) parent ∙ ap (λ xs. root_under n (get_or parents n None) xs) e in
    subst (λ y. AreRootsBefore parents order (set roots n y) (k + 1)) (sym value) (more_roots parents order roots k n (get_or parents n None) ordered a at there)

pub loop-place-preserved : goal.loop-place-preserved
loop-place-preserved c = step (forest_parents c.args.forest.now) c.order-order.result.now (forest_order c.args.forest.now) c.loop-place.roots.items c.deref.result.now c.loop-place.place c.root_under-root.result c.parent.result c.requires.order c.loop-place.invariant c.order-order.ensures (omega arith) c.parent.ensures c.deref.ensures.value c.root_under-root.ensures

pub returns : goal.returns
returns c = all_roots (forest_parents c.args.forest.now) (forest_order c.args.forest.now) c.loop-place.roots.items c.loop-place.place c.requires.order c.loop-place.invariant (omega (arith, ap length c.order-order.ensures))
