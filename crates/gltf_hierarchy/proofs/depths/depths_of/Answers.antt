use Rattle.std.proofs.Common.{◌≡◌, ℕ, ◌<◌, ◌+◌, List, length, slice_get, Option, Some, None, get_or, sym, ◌∙◌, ap, subst, arith}
use Rattle.std.proofs.Math.ListN.{set}
use Rattle.std.proofs.lemmas.Option.{slice_get-get_or}
use Rattle.gltf_hierarchy.specs.Order.{IsOrder}
use Rattle.gltf_hierarchy.specs.Depths.{AreDepthsBefore, depth_under}
use Rattle.gltf_hierarchy.proofs.Deepening.{deeper, all_deep}
use Rattle.gltf_hierarchy.proofs.depths.depths_of.Goals as goal

-- the node at a place gets its depth
step : (parents : List (Option ℕ)) (order depths read : List ℕ) (k d : ℕ) → IsOrder parents order → AreDepthsBefore parents order depths k → k < length order → read ≡ depths → d ≡ depth_under (get_or parents (get_or order k 0) None) read → AreDepthsBefore parents order (set depths (get_or order k 0) d) (k + 1)
step parents order depths read k d ordered a h same e =
    let n : ℕ = get_or order k 0 in
    let at : slice_get order k ≡ Some n = slice_get-get_or order k 0 h in
    let parent : slice_get parents n ≡ Some (get_or parents n None) = slice_get-get_or parents n None (ordered.nodes k n at) in
    let is : d ≡ depth_under (get_or parents n None) depths = e ∙ ap (λ xs. depth_under (get_or parents n None) xs) same in
    subst (λ x. AreDepthsBefore parents order (set depths n x) (k + 1)) (sym is) (deeper parents order depths k n (get_or parents n None) ordered a at parent)

pub loop-place-preserved : goal.loop-place-preserved
loop-place-preserved c = step c.args.parents.now c.args.order.now c.loop-place.depths.items c.deref.result.now c.loop-place.place c.depth_below-depth.result c.requires.order c.loop-place.invariant (omega arith) c.deref.ensures.value c.depth_below-depth.ensures

pub returns : goal.returns
returns c = all_deep c.args.parents.now c.args.order.now c.loop-place.depths.items c.loop-place.place c.requires.order c.loop-place.invariant (omega arith)
