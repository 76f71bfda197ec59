use Rattle.std.proofs.Common.{◌+◌, ◌*◌, ◌<◌, ◌≤◌, subst, sym}
use Rattle.gltf_layout.specs.Fits.{start_of, stride_of, size_of}
use Rattle.gltf_load.specs.Spans.{view_layout}
use Rattle.gltf_load.proofs.Spans.{same_buffer}
use Rattle.gltf_load.proofs.laws.elements_of_places_lie_in_buffers.Goals as goal

pub returns : goal.returns
returns c = λ views buffers a v b s i both lies small.
    let below : i < lies.2.count = subst (λ x. i < x.count) lies.6 small in
    let within = c.elements_lie_in_buffers.ensures.within lies.2 (view_layout lies.0) lies.1.byte_length.0 i lies.5 below in
    let named : start_of lies.2 (view_layout lies.0) + i * stride_of lies.2 (view_layout lies.0) + size_of lies.2 ≤ b.byte_length.0 = subst (λ x. start_of lies.2 (view_layout lies.0) + i * stride_of lies.2 (view_layout lies.0) + size_of lies.2 ≤ x.byte_length.0) (same_buffer views buffers a lies.0 v lies.1 b lies.3 both) within in
    subst (λ x. x.start + i * x.stride + x.size ≤ b.byte_length.0) (sym lies.6) named
