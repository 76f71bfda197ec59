use Rattle.std.proofs.Common.{◌≡◌, Some, Ok, subst, sym, ap, ◌∙◌}
use Rattle.std.specs.Prelude.{option_map}
use Rattle.gltf_base.specs.Indexes.{index_number}
use Rattle.gltf_layout.specs.Fits.{Fits, span_of, IsFirstMisfit}
use Rattle.gltf_load.specs.Spans.{view_layout}
use Rattle.gltf_load.proofs.Spans.{named, same_fits}
use Rattle.gltf_load.proofs.place.span_of.Goals as goal

pub returns-in-Ok-of-clause-only : goal.returns-in-Ok-of-clause-only
returns-in-Ok-of-clause-only c = λ s lies.
    let v = c.in-Some-get.view.now in
    let b = c.in-Some-get-2.buffer.now in
    let both = named c.args.views.now c.args.buffers.now c.args.accessor.now (index_number c.in-Some.index) v b c.value.result c.value-2.result (ap (option_map index_number) c.in-Some.is) c.value.ensures c.in-Some-get.ensures.lookup.3 c.value-2.ensures c.in-Some-get-2.ensures.lookup.3 in
    let same = same_fits c.args.views.now c.args.buffers.now c.args.accessor.now s v b c.in-Ok.layout both c.in-Ok.ensures.layout lies in
    let span : c.in-Ok-of.span ≡ span_of c.in-Ok.layout (view_layout v) = c.in-Ok-of.ensures.span ∙ ap (λ x. span_of c.in-Ok.layout x) c.view_layout.ensures in
    ap (λ x. Ok (Some x)) (span ∙ same.1)

pub returns-in-Err-of-clause-only : goal.returns-in-Err-of-clause-only
returns-in-Err-of-clause-only c = λ s lies.
    let v = c.in-Some-get.view.now in
    let b = c.in-Some-get-2.buffer.now in
    let both = named c.args.views.now c.args.buffers.now c.args.accessor.now (index_number c.in-Some.index) v b c.value.result c.value-2.result (ap (option_map index_number) c.in-Some.is) c.value.ensures c.in-Some-get.ensures.lookup.3 c.value-2.ensures c.in-Some-get-2.ensures.lookup.3 in
    let same = same_fits c.args.views.now c.args.buffers.now c.args.accessor.now s v b c.in-Ok.layout both c.in-Ok.ensures.layout lies in
    let fits : Fits c.in-Ok.layout c.view_layout.result b.byte_length.0 = subst (λ x. Fits c.in-Ok.layout x b.byte_length.0) (sym c.view_layout.ensures) same.0 in
    let ok = c.in-Err-of.ensures.only fits in
    cc

pub returns-in-Err-of-clause-fault : goal.returns-in-Err-of-clause-fault
returns-in-Err-of-clause-fault c =
    let v = c.in-Some-get.view.now in
    let b = c.in-Some-get-2.buffer.now in
    let both = named c.args.views.now c.args.buffers.now c.args.accessor.now (index_number c.in-Some.index) v b c.value.result c.value-2.result (ap (option_map index_number) c.in-Some.is) c.value.ensures c.in-Some-get.ensures.lookup.3 c.value-2.ensures c.in-Some-get-2.ensures.lookup.3 in
    let misfit : IsFirstMisfit c.in-Ok.layout (view_layout v) b.byte_length.0 c.in-Err-of.misfit = subst (λ x. IsFirstMisfit c.in-Ok.layout x b.byte_length.0 c.in-Err-of.misfit) c.view_layout.ensures c.in-Err-of.ensures.misfit in
    (v, b, c.in-Ok.layout, both, c.in-Ok.ensures.layout, misfit)
