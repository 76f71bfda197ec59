use Rattle.std.proofs.Common.{◌≡◌, ◌<◌, ◌≤◌, ◌+◌, ◌-◌, refl, subst, sym, arith}
use Rattle.gltf_accessors.specs.Indices.{index_at}
use Rattle.gltf_accessors.proofs.Rising.{steps_more, steps_rise}
use Rattle.gltf_accessors.proofs.sparse.check_rising.Goals as goal

pub returns-clause-rising : goal.returns-clause-rising
returns-clause-rising c = λ i j h small.
    let x = c.args.indices.now in
    steps_rise (index_at x.kind x.elements.bytes.now x.elements.span) c.loop-place.place c.loop-place.invariant i j h (omega (arith, small))

pub returns-then-index-before-clause-fault : goal.returns-then-index-before-clause-fault
returns-then-index-before-clause-fault c = λ count.
    let x = c.args.indices.now in
    let place = c.loop-place.place in
    let same : place - 1 + 1 ≡ place = omega arith in
    let within : place - 1 + 1 < x.elements.span.count = omega arith in
    let above : c.get-index.result ≤ index_at x.kind x.elements.bytes.now x.elements.span (place - 1) = omega (arith, c.get-before.ensures) in (
      refl,
      (
        within,
        subst (λ k. c.get-index.result ≡ index_at x.kind x.elements.bytes.now x.elements.span k) (sym same) c.get-index.ensures,
        above,
        λ i j h small. steps_rise (index_at x.kind x.elements.bytes.now x.elements.span) place c.loop-place.invariant i j h (omega (arith, small)),
      ),
    )

pub loop-place-preserved : goal.loop-place-preserved
loop-place-preserved c =
    let x = c.args.indices.now in
    let place = c.loop-place.place in
    let here : index_at x.kind x.elements.bytes.now x.elements.span (place - 1) < index_at x.kind x.elements.bytes.now x.elements.span place = omega (arith, c.get-before.ensures, c.get-index.ensures) in
    steps_more (index_at x.kind x.elements.bytes.now x.elements.span) place (omega arith) c.loop-place.invariant here
