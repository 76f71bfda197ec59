-- An object is printed as its value.
use Rattle.gltf_schema.specs.Put.{put_rows, some_invalid}
use Rattle.gltf_schema.specs.Nulls.{rows_without_nulls}
use Rattle.gltf_schema.proofs.ByName.{sound_object_distinct}
use Rattle.gltf_schema.proofs.NullsLeftOut.{distinct_without_nulls}
use Rattle.gltf_schema.proofs.ObjectPrinted.{object_printing}
use Rattle.gltf_schema.proofs.strict.AnyStrict.print_strictly.Goals as goal

pub returns : goal.returns
unfolding put_rows some_invalid
returns g c =
    let t = g.T.Object in
    object_printing (rows_without_nulls t.rows) (t.members c.args.self.now) (t.unknown c.args.self.now) _ _ _ _ _
    (distinct_without_nulls t.rows (sound_object_distinct t.rule t.rows t.keeps g.met.T.Object.kind_is_sound))
    c.begin_members-outer.ensures c.write_strictly.ensures c.end_members.ensures
