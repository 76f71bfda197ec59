use Rattle.gltf_buffers.proofs.Truths.{only_path_memory}
use Rattle.gltf_buffers.proofs.path.decode_path.Goals as goal

pub returns-clause-only : goal.returns-clause-only
returns-clause-only c = λ path is utf8. only_path_memory c.args.uri.now path c.decode.result c.decode.ensures.fault is utf8
