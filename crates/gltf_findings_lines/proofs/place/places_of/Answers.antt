-- One place more is that of one pointer more.
use Rattle.std.proofs.Common.{◌++◌, ◌∷◌, [], take, sym, ap, ◌∙◌, subst, string_bytes, arith}
use Rattle.std.proofs.lemmas.List.{take_more}
use Rattle.gltf_findings_lines.specs.Children.{ArePlaces, IsPlace}
use Rattle.gltf_findings_lines.proofs.Leading.{zip_push}
use Rattle.gltf_findings_lines.proofs.place.places_of.Goals as goal

pub loop-pointer-preserved : goal.loop-pointer-preserved
loop-pointer-preserved c = record {
  kept = c.in_ok-place_of.ensures.kept;
  places = λ j is.
      let nodes = c.args.nodes.now in
      let pointers = c.args.pointers.now in
      let i = c.loop-pointer.pointer-index in
      let pointer = c.pointer-item.result in
      let n = c.in_ok-place_of.field-0 in
      let here = subst (λ s. IsPlace nodes j s n) c.deref.ensures (c.in_ok-place_of.ensures.place j is) in
      let all = zip_push (λ p m. IsPlace nodes j (string_bytes p) m) (take i pointers) c.loop-pointer.places.items pointer n (c.loop-pointer.invariant.places j is) here in
      let front = take_more pointers i pointer (omega arith) ∙ ap (λ p. take i pointers ++ p ∷ []) (sym c.pointer-item.is) in
      subst (λ l. ArePlaces nodes j l c.push.new.self.items) (sym front)
      (subst (λ l. ArePlaces nodes j (take i pointers ++ pointer ∷ []) l) (sym c.in_ok-push.ensures.items) all);
}
