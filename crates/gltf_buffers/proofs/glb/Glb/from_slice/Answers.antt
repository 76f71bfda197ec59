use Rattle.std.proofs.Common.{subst, arith}
use Rattle.gltf_buffers.specs.Reading.{Gives, parts_of}
use Rattle.gltf_buffers.proofs.Takes.{is_glb}
use Rattle.gltf_buffers.proofs.Again.{glb_again}
use Rattle.gltf_buffers.proofs.glb.Glb.from_slice.Goals as goal

pub returns-clause-found : goal.returns-clause-found
returns-clause-found c = is_glb c.args.bytes.now c.read.result (λ i. omega (arith, c.type_inv.bytes i)) c.read.ensures

pub returns-clause-only : goal.returns-clause-only
returns-clause-only c = λ p g. subst (λ r. Gives parts_of c.read.result r) (glb_again c.args.bytes.now p g) c.read.ensures
