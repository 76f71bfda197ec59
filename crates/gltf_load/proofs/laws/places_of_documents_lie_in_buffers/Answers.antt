use Rattle.gltf_load.specs.Documents.{stored_in}
use Rattle.gltf_load.proofs.Documents.{lie_within}
use Rattle.gltf_load.proofs.laws.places_of_documents_lie_in_buffers.Goals as goal

pub returns : goal.returns
returns c = λ buffers views accessors places n p are at. lie_within buffers views accessors p (c.places_lie_in_buffers.ensures.layout (stored_in buffers views accessors) places n p are at)
