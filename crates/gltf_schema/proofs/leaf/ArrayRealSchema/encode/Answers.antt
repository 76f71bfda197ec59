-- The items of an array are its numbers.
use Rattle.std.proofs.lemmas.Result.{err_from_is_err_and}
use Rattle.serde_json.specs.View.{items_view}
use Rattle.serde_json.proofs.Views.{view-Array}
use Rattle.gltf_schema.proofs.ArrayOfNumbers.{reals_withheld, array_written}
use Rattle.gltf_schema.proofs.leaf.ArrayRealSchema.encode.Goals as goal

pub returns-in_err-encode_items : goal.returns-in_err-encode_items
returns-in_err-encode_items g c =
    let exit = err_from_is_err_and c.from_residual.result c.from_residual.ensures.1 in
    rw (exit.1, exit.2) (reals_withheld c.in_err-encode_items.field-0.0 c.args.self.now _ _ c.in_err-encode_items.ensures)

pub returns : goal.returns
returns g c =
    rw (view-Array c.in_ok-encode_items.field-0)
    (array_written c.args.self.now g.row.N (items_view c.in_ok-encode_items.field-0.items) c.type_inv.self c.in_ok-encode_items.ensures)
