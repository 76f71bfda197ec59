use Rattle.std.proofs.Common.{subst}
use Rattle.gltf_hierarchy.specs.Forest.{forest_order, forest_parents}
use Rattle.gltf_hierarchy.specs.Shares.{AreFirsts}
use Rattle.gltf_hierarchy.proofs.Numbering.{ranges}
use Rattle.gltf_hierarchy.proofs.Knowing.{known}
use Rattle.gltf_hierarchy.proofs.subtrees.subtrees_of.Goals as goal

pub returns : goal.returns
returns c = λ nodes are.
    let parents = forest_parents c.args.forest.now in
    let order = forest_order c.args.forest.now in
    let firsts : AreFirsts parents c.in_ok-sizes.field-0.offsets.items c.in_ok-firsts.firsts.items = subst (λ xs. AreFirsts parents xs c.in_ok-firsts.firsts.items) c.deref-2.ensures.value c.in_ok-firsts.ensures in
    known nodes parents _ are (ranges parents order c.in_ok-sizes.field-0.sizes.items c.in_ok-sizes.field-0.offsets.items c.in_ok-firsts.firsts.items c.requires.order c.in_ok-sizes.ensures.shares firsts) c.in_ok-roots.ensures
