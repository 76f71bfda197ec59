use Rattle.std.proofs.Common.{◌≡◌, Some, arith}
use Rattle.serde_json.specs.Find.{as_object}
use Rattle.gltf_schema.specs.Kind.{Object as object_kind}
use Rattle.gltf_schema.specs.Tree.{object}
use Rattle.gltf_schema.proofs.TakingOut.{decoded, sound_rows}
use Rattle.gltf_schema.proofs.ReadPlain.{decoded_plain}
use Rattle.gltf_schema.proofs.schema.AnySchema.decode_from.Goals as goal

pub returns-in-Some-clause-by_table : goal.returns-in-Some-clause-by_table
returns-in-Some-clause-by_table g c =
    let t = g.T.Object in
    let ms = g.S.Source.members c.in-Some.found in
    let seen : as_object (g.S.Source.given c.args.source) ≡ Some ms = grind arith in
    rw seen (decoded c.decode_members.result t.members t.unknown t.rows t.keeps ms (sound_rows t.rule t.rows g.met.T.Object.kind_is_sound) c.decode_members.ensures)

pub returns-in-Some-clause-plain : goal.returns-in-Some-clause-plain
returns-in-Some-clause-plain g c =
    let t = g.T.Object in
    let ms = g.S.Source.members c.in-Some.found in
    let seen : as_object (g.S.Source.given c.args.source) ≡ Some ms = grind arith in
    decoded_plain (object_kind t.rule t.rows t.keeps) (λ x. object (t.members x) (t.unknown x)) c.decode_members.result (g.S.Source.given c.args.source) g.met.T.Object.kind_is_sound
    (rw seen (decoded c.decode_members.result t.members t.unknown t.rows t.keeps ms (sound_rows t.rule t.rows g.met.T.Object.kind_is_sound) c.decode_members.ensures))
