-- One position more is that of one number more.
use Rattle.std.proofs.Common.{◌≡◌, ◌++◌, ◌∷◌, [], take, get_or, Some, sym, subst, arith}
use Rattle.std.specs.Prelude.{slice_get}
use Rattle.std.specs.List.{AllZip}
use Rattle.std.proofs.lemmas.List.{take_more}
use Rattle.std.proofs.lemmas.Option.{slice_get-get_or}
use Rattle.gltf_findings_lines.proofs.Leading.{zip_push}
use Rattle.gltf_findings_lines.proofs.position.positions_at.Goals as goal

pub loop-place-preserved : goal.loop-place-preserved
loop-place-preserved c =
    let places = c.args.places.now in
    let starts = c.args.starts.now in
    let i = c.loop-place.place-index in
    let n = get_or places i 0 in
    let here = slice_get-get_or starts n _ (c.requires i 0 (omega arith)) in
    let all = zip_push (λ m p. slice_get starts m ≡ Some p) (take i places) c.loop-place.positions.items n _ c.loop-place.invariant here in
    subst (λ l. AllZip (λ m p. slice_get starts m ≡ Some p) l c.push.new.self.items) (sym (take_more places i 0 (omega arith)))
    (subst (AllZip (λ m p. slice_get starts m ≡ Some p) (take i places ++ n ∷ [])) (sym c.in_ok-push.ensures.items) all)
