use Rattle.std.proofs.Common.{subst, sym}
use Rattle.std.proofs.lemmas.Result.{IfOk-weaker}
use Rattle.gltf_hierarchy.specs.Order.{IsOrder}
use Rattle.gltf_hierarchy.specs.Joints.{IsCommonRootOrNone}
use Rattle.gltf_hierarchy.specs.Gathering.{IsRootOrNone}
use Rattle.gltf_hierarchy.proofs.Meeting.{common_root}
use Rattle.gltf_hierarchy.proofs.Ordered.{order_of}
use Rattle.gltf_hierarchy.proofs.forest.Forest.common_root.Goals as goal

pub root_over-requires-clause-order : goal.root_over-requires-clause-order
root_over-requires-clause-order c =
    let forest = c.args.self.now in
    subst (λ xs. IsOrder xs c.deref-2.result.now) (sym c.deref.ensures.value) (subst (λ xs. IsOrder forest.parents.items xs) (sym c.deref-2.ensures.value) (order_of forest.parents.items forest.order.items forest.nodes forest.ordered))

pub returns-clause-root : goal.returns-clause-root
returns-clause-root c = λ nodes are.
    IfOk-weaker c.root_over.result (IsRootOrNone c.deref.result.now c.args.joints.now) (IsCommonRootOrNone nodes c.args.joints.now)
    (λ root r. common_root nodes c.args.self.now.parents.items c.args.joints.now root are (subst (λ xs. IsRootOrNone xs c.args.joints.now root) c.deref.ensures.value r)) c.root_over.ensures.root
