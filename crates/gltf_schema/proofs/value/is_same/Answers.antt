use Rattle.std.proofs.Common.{◌≡◌, length, sym, ◌∙◌, arith, ext_get_or}
use Rattle.std.proofs.lemmas.Slice.Eq.{bytes_eq-Decides}
use Rattle.gltf_schema.proofs.value.is_same.Goals as goal

pub returns : goal.returns
returns c =
    let x = c.as_bytes-x.result.now in
    let y = c.as_bytes-y.result.now in
    let long : length x ≡ length y = omega (arith, c.as_bytes-x.ensures.len, c.as_bytes-y.ensures.len) in
    let same : x ≡ y = ext_get_or 0 x y long (λ k. c.loop-i.invariant.behind k (omega arith)) in
    sym ((bytes_eq-Decides _ _).1 (sym c.as_bytes-x.ensures.value ∙ same ∙ c.as_bytes-y.ensures.value))
