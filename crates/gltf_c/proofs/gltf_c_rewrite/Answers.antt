use Rattle.std.proofs.Common.{inl}
use Rattle.gltf_root.specs.Answer.{answer}
use Rattle.gltf_c.proofs.Statuses.{written_status}
use Rattle.gltf_c.proofs.gltf_c_rewrite.Goals as goal

pub returns-in-Ok-clause-memory : goal.returns-in-Ok-clause-memory
returns-in-Ok-clause-memory c = inl (written_status (answer c.args.document.now) c.in-Ok.bytes.items c.in-Ok.ensures)
