-- A map holds its entries in order.
use Rattle.std.proofs.Common.{map}
use Rattle.std.proofs.lemmas.Result.{err_from_is_err_and}
use Rattle.serde_json.specs.Data.{object}
use Rattle.gltf_schema.specs.Fields.{entry_of}
use Rattle.gltf_schema.specs.Write.{are_in_order}
use Rattle.gltf_schema.proofs.Putting.{withheld, in_order_written, in_order_withheld}
use Rattle.gltf_schema.proofs.RowsWritten.{object_written}
use Rattle.gltf_schema.proofs.attributes.BTreeMapCheckedSemanticIndexToSchema.encode.Goals as goal

pub returns-in_err-encode_entries : goal.returns-in_err-encode_entries
returns-in_err-encode_entries g c =
    let exit = err_from_is_err_and c.from_residual.result c.from_residual.ensures.1 in
    let e = c.in_err-encode_entries.field-0.0 in
    rw (exit.1, exit.2) (in_order_withheld e (are_in_order (map entry_of c.args.self.now.entries)) _ _ (withheld e object _ _ c.in_err-encode_entries.ensures.written))

pub returns : goal.returns
returns g c =
    in_order_written (are_in_order (map entry_of c.args.self.now.entries)) _ _ c.in_ok-encode_entries.ensures.in_order
    (object_written c.in_ok-encode_entries.field-0 _ c.in_ok-encode_entries.ensures.written)
