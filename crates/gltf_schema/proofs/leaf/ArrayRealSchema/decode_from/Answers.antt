use Rattle.std.proofs.Common.{◌≡◌, Some, arith, rules}
use Rattle.std.proofs.lemmas.Result.{err_from_is_err_and}
use Rattle.serde_json.specs.Find.{as_array}
use Rattle.gltf_schema.proofs.ArrayOfNumbers.{array_filled, array_read, array_refused}
use Rattle.gltf_schema.proofs.leaf.ArrayRealSchema.decode_from.Goals as goal

pub returns-in_err-found-clause-by_table : goal.returns-in_err-found-clause-by_table
returns-in_err-found-clause-by_table g c =
    let exit = err_from_is_err_and c.from_residual.result c.from_residual.ensures.1 in
    let ds = g.S.Source.items c.in-Some.items in
    let seen : as_array (g.S.Source.given c.args.source) ≡ Some ds = grind arith in
    rw (exit.1, exit.2, seen) (array_refused c.in_err-found.field-0.0 ds _ c.in_err-found.ensures)

pub returns-clause-by_table : goal.returns-clause-by_table
returns-clause-by_table g c =
    let ds = g.S.Source.items c.in-Some.items in
    let seen : as_array (g.S.Source.given c.args.source) ≡ Some ds = grind arith in
    rw seen
    (array_read _ ds c.in_ok-found.found.items _ c.in_ok-found.ensures
    (array_filled _ c.try_from.result c.map_err.result c.in_ok-found.found.items _ c.in_ok-found.found (λ v e made. search (rules, made)) (rw (← c.in_ok-found.found.ok.0) c.try_from.ensures) c.map_err.ensures.cases))
