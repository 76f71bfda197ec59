use Rattle.std.proofs.Common.{rules, ◌++◌}
use Rattle.std.specs.Io.KnownBytes.{Appends}
use Rattle.gltf_buffers.specs.Container.{number}
use Rattle.gltf_buffers.proofs.Sent.{sent_then}
use Rattle.gltf_buffers.proofs.write.send_header.Goals as goal

pub returns : goal.returns
returns g c =
    let contents = g.W.Write.contents in
    let old = contents c.args.writer.now in
    let first = contents c.write_all.new.self in
    let second = contents c.write_all-2.new.self in
    let new = contents c.write_all-3.new.self in
    let h1 : Appends old first (number 1179937895) = search rules in
    let h2 : Appends first second (number 2) = search rules in
    let h3 : Appends second new (number c.args.len) = search rules in
    sent_then old first new (number 1179937895) (number 2 ++ number c.args.len) h1 (sent_then first second new (number 2) (number c.args.len) h2 h3)
