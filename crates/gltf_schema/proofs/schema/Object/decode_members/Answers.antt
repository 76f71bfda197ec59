-- The rows that were read are those that are taken out of the members.
use Rattle.std.proofs.Common.{sym, ◌∙◌}
use Rattle.gltf_schema.proofs.RowByRow.{object_read, object_refused}
use Rattle.gltf_schema.proofs.schema.Object.decode_members.Goals as goal

pub returns-in-Err : goal.returns-in-Err
returns-in-Err g c =
    object_refused c.from_members-reading.ensures c.start-object.ensures.rows c.read_rows.ensures (sym c.in-Err.is ∙ c.end.ensures)

pub returns-in-Ok : goal.returns-in-Ok
returns-in-Ok g c =
    object_read c.from_members-reading.ensures c.start-object.ensures.rows c.read_rows.ensures (sym c.in-Ok.is ∙ c.end.ensures)
