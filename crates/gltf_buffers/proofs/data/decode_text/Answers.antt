use Rattle.gltf_buffers.proofs.Truths.{only_memory}
use Rattle.gltf_buffers.proofs.data.decode_text.Goals as goal

pub returns-clause-only : goal.returns-clause-only
returns-clause-only c = λ bytes is. only_memory c.args.text.now bytes c.decode_parts.result c.decode_parts.ensures.fault is
