use Rattle.std.proofs.Common.{◌≡◌, ◌+◌, [], ◌∷◌, ◌++◌, sym, subst, refl, arith}
use Rattle.gltf_findings.specs.Rooting.{AreMarksBy}
use Rattle.std.proofs.lemmas.Option.{slice_get_read}
use Rattle.gltf_findings.proofs.Skinned.{more_marks}
use Rattle.gltf_findings.proofs.skeletons.marks_by.Goals as goal

pub loop-number-preserved : goal.loop-number-preserved
loop-number-preserved c =
    let t = c.args.subtrees.now in
    let skins = c.args.skins.now in
    let k = c.loop-number.number in
    let apart = c.loop-number.marks.apart.items in
    let astray = c.loop-number.marks.astray.items in
    subst (λ xs. AreMarksBy t c.args.count skins xs c.push-in-loop-number.new.self.items (k + 1)) (sym c.in_ok-push.ensures.items) (subst (λ ys. AreMarksBy t c.args.count skins (apart ++ c.is_apart.result ∷ []) ys (k + 1)) (sym c.in_ok-push-2.ensures.items) (more_marks t c.args.count skins apart astray k c.index-skins-number.result c.is_apart.result c.is_astray.result c.loop-number.invariant (slice_get_read skins _ k c.index-skins-number.result refl (omega arith) c.index-skins-number.is) c.is_apart.ensures c.is_astray.ensures))
