-- The rows are read in turn, up to the first that is refused.
use Rattle.std.proofs.Common.{ap}
use Rattle.std.proofs.lemmas.Result.{err_from_is_err_and}
use Rattle.gltf_schema.specs.RowPlacing.{place_of, members_or_place}
use Rattle.gltf_schema.proofs.Placed.{object_read, object_refused, object_refused_inside}
use Rattle.gltf_schema.proofs.placing.place_members.Goals as goal

pub returns-in_err-_left-clause-by_table : goal.returns-in_err-_left-clause-by_table
returns-in_err-_left-clause-by_table g c =
    let t = g.T.Object in
    let exit = err_from_is_err_and c.from_residual.result c.from_residual.ensures.1 in
    let view = members_or_place g.S.Source.members in
    rw (exit.1, exit.2)
    (object_refused (place_of c.in_err-_left.field-0.0) t.rule t.rows t.keeps (g.S.Source.members c.args.found) _
    g.met.T.Object.kind_is_sound c.start-object.ensures.rows c.read_rows.ensures (ap view c.in_err-_left.was))

pub returns-in_err-_left-clause-inside : goal.returns-in_err-_left-clause-inside
returns-in_err-_left-clause-inside g c =
    let t = g.T.Object in
    let exit = err_from_is_err_and c.from_residual.result c.from_residual.ensures.1 in
    let view = members_or_place g.S.Source.members in
    rw (exit.1, exit.2)
    (object_refused_inside (place_of c.in_err-_left.field-0.0) t.rule t.rows t.keeps (g.S.Source.members c.args.found) _
    g.met.T.Object.kind_is_sound c.start-object.ensures.rows c.read_rows.ensures (ap view c.in_err-_left.was))

pub returns-clause-by_table : goal.returns-clause-by_table
returns-clause-by_table g c =
    let t = g.T.Object in
    let view = members_or_place g.S.Source.members in
    object_read t.members t.unknown c.read_rows.new.self t.rule t.rows t.keeps (g.S.Source.members c.args.found) _ _
    g.met.T.Object.kind_is_sound c.start-object.ensures.rows c.read_rows.ensures (ap view c.in_ok-_left.was)
