use Rattle.std.proofs.Common.{rules, refl}
use Rattle.std.specs.Io.KnownBytes.{Appends}
use Rattle.gltf_buffers.specs.Container.{number}
use Rattle.gltf_buffers.proofs.Sent.{sent_chunk}
use Rattle.gltf_buffers.proofs.write.send_chunk.Goals as goal

pub returns : goal.returns
returns g c =
    let contents = g.W.Write.contents in
    let h2 : Appends (contents c.write_all.new.self) (contents c.write_all-2.new.self) (number c.args.kind) = search rules in
    sent_chunk c.args.kind c.args.fill c.args.content.now _ (contents c.args.writer.now) (contents c.write_all.new.self) (contents c.write_all-2.new.self) (contents c.write_all-3.new.self) (contents c.write_all-4.new.self) _ _ c.padding-padding.ensures refl refl (search rules) h2 c.in_ok-write_all-3.ensures.bytes c.in_ok-write_all-4.ensures.bytes
