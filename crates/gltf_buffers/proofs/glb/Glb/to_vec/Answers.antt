use Rattle.std.proofs.lemmas.Bool.{iff_false}
use Rattle.gltf_buffers.specs.Writing.{bytes_of}
use Rattle.gltf_buffers.proofs.File.{is_bytes, is_file, is_read}
use Rattle.gltf_buffers.proofs.glb.Glb.to_vec.Goals as goal

pub returns-in-Ok-clause-container : goal.returns-in-Ok-clause-container
returns-in-Ok-clause-container c =
    let bin = bytes_of c.args.bin in
    is_file c.args.json.now bin c.in-Some.len c.write_parts.new.bytes.items (iff_false c.ends_with_zero.ensures c.if-ends_with_zero.false) c.in-Some.ensures.short (is_bytes c.args.json.now bin c.in-Some.len c.new-bytes.result.items c.write_parts.new.bytes.items c.in-Some.ensures.short c.new-bytes.ensures.items c.in-Ok.ensures)

pub returns-in-Ok-clause-read_back : goal.returns-in-Ok-clause-read_back
returns-in-Ok-clause-read_back c =
    let bin = bytes_of c.args.bin in
    is_read c.args.json.now bin c.in-Some.len c.write_parts.new.bytes.items (iff_false c.ends_with_zero.ensures c.if-ends_with_zero.false) c.in-Some.ensures.short (is_bytes c.args.json.now bin c.in-Some.len c.new-bytes.result.items c.write_parts.new.bytes.items c.in-Some.ensures.short c.new-bytes.ensures.items c.in-Ok.ensures)
