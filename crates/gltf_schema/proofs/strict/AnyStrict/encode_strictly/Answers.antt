-- An object's members are its value.
use Rattle.std.proofs.lemmas.Result.{err_from_is_err_and}
use Rattle.serde_json.specs.Data.{object as json_object}
use Rattle.gltf_schema.specs.Put.{put_rows, some_invalid}
use Rattle.gltf_schema.proofs.Putting.{withheld}
use Rattle.gltf_schema.proofs.RowsWritten.{object_written}
use Rattle.gltf_schema.proofs.strict.AnyStrict.encode_strictly.Goals as goal

pub returns-in_err-encode_strict_members : goal.returns-in_err-encode_strict_members
unfolding put_rows some_invalid
returns-in_err-encode_strict_members g c =
    let exit = err_from_is_err_and c.from_residual.result c.from_residual.ensures.1 in
    rw (exit.1, exit.2) (withheld c.in_err-encode_strict_members.field-0.0 json_object _ _ c.in_err-encode_strict_members.ensures)

pub returns : goal.returns
unfolding put_rows
returns g c = object_written c.in_ok-encode_strict_members.field-0 _ c.in_ok-encode_strict_members.ensures
