use Rattle.std.proofs.Common.{◌≡◌, length, sym, ◌∙◌, ap, subst, arith}
use Rattle.std.proofs.lemmas.Grind.{common_steps}
use Rattle.std.proofs.lemmas.Result.{IfOk-weaker}
use Rattle.std.proofs.lemmas.List.{length-map}
use Rattle.gltf_hierarchy.specs.Forest.{IsForest}
use Rattle.gltf_load.specs.Named.{children_named, numbers_in}
use Rattle.gltf_hierarchy.specs.Subtrees.{AreSubtrees}
use Rattle.gltf_findings.specs.Skeletons.{AreSkeletonMarks}
use Rattle.gltf_findings.specs.Rooting.{AreMarksBy}
use Rattle.gltf_findings.proofs.Skinned.{marks}
use Rattle.gltf_findings.proofs.skeletons.skeleton_marks.Goals as goal

pub returns-in-Ok : goal.returns-in-Ok
returns-in-Ok c =
    let items = c.args.root.now.nodes.items in
    let skins = c.args.root.now.skins.items in
    let t = c.in-Ok.subtrees in
    let are : AreSubtrees (children_named items) t = subst (λ xs. AreSubtrees (children_named xs) t) c.of.ensures.nodes c.in-Ok.ensures.subtrees in
    let forest : IsForest (children_named items) = subst (λ xs. IsForest (children_named xs)) c.of.ensures.nodes c.in-Ok.ensures.forest in
    let counted : length items ≡ c.len.result = grind (arith, common_steps) in
    let len : length (children_named items) ≡ c.len.result = length-map items (λ n. numbers_in n.children) ∙ counted in
    IfOk-weaker c.marks_by.result (λ m. AreMarksBy t c.len.result c.deref.result.now m.apart.items m.astray.items (length c.deref.result.now)) (λ m. AreSkeletonMarks (children_named items) skins m.apart.items m.astray.items) (λ m h. marks (children_named items) t c.len.result skins m.apart.items m.astray.items are forest len (subst (λ xs. AreMarksBy t c.len.result xs m.apart.items m.astray.items (length xs)) c.deref.ensures.value h)) c.marks_by.ensures
