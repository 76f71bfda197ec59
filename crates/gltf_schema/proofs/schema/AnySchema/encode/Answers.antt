-- An object's members are its value.
use Rattle.std.proofs.lemmas.Result.{err_from_is_err_and}
use Rattle.serde_json.specs.Data.{object as json_object}
use Rattle.gltf_schema.specs.Put.{put_rows, some_invalid}
use Rattle.gltf_schema.proofs.Putting.{withheld}
use Rattle.gltf_schema.specs.Kind.{Object as object_kind}
use Rattle.gltf_schema.specs.Tree.{object}
use Rattle.gltf_schema.proofs.ReadBack.{read_back}
use Rattle.gltf_schema.proofs.RefusedWhereInvalid.{written_valid}
use Rattle.gltf_schema.proofs.RowsWritten.{object_written}
use Rattle.gltf_schema.proofs.schema.AnySchema.encode.Goals as goal

pub returns-in_err-encode_members-clause-by_table : goal.returns-in_err-encode_members-clause-by_table
unfolding put_rows some_invalid
returns-in_err-encode_members-clause-by_table g c =
    let exit = err_from_is_err_and c.from_residual.result c.from_residual.ensures.1 in
    rw (exit.1, exit.2) (withheld c.in_err-encode_members.field-0.0 json_object _ _ c.in_err-encode_members.ensures)

pub returns-clause-by_table : goal.returns-clause-by_table
unfolding put_rows
returns-clause-by_table g c = object_written c.in_ok-encode_members.field-0 _ c.in_ok-encode_members.ensures

pub returns-clause-valid : goal.returns-clause-valid
unfolding put_rows
returns-clause-valid g c =
    let t = g.T.Object in
    written_valid (object_kind t.rule t.rows t.keeps) (object (t.members c.args.self.now) (t.unknown c.args.self.now)) _
    (object_written c.in_ok-encode_members.field-0 _ c.in_ok-encode_members.ensures)

pub returns-clause-reads_back : goal.returns-clause-reads_back
unfolding put_rows
returns-clause-reads_back g c =
    let t = g.T.Object in
    λ plain. read_back (object_kind t.rule t.rows t.keeps) (object (t.members c.args.self.now) (t.unknown c.args.self.now)) _ g.met.T.Object.kind_is_sound plain
    (object_written c.in_ok-encode_members.field-0 _ c.in_ok-encode_members.ensures)
