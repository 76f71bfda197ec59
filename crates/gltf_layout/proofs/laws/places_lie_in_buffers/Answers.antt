use Rattle.gltf_layout.proofs.Within.{place_within, layout_within}
use Rattle.gltf_layout.proofs.laws.places_lie_in_buffers.Goals as goal

pub returns-clause-place : goal.returns-clause-place
returns-clause-place c = place_within c.elements_lie_in_buffers.ensures.within

pub returns-clause-layout : goal.returns-clause-layout
returns-clause-layout c = layout_within c.elements_lie_in_buffers.ensures.within
