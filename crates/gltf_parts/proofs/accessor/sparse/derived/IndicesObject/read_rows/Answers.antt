-- Written by tools/derive.py from crates/gltf_parts/src/accessor/sparse.rt and
-- crates/gltf_parts/specs/Accessor.antt. Do not edit.
-- Each row is read in the table's order.
use Rattle.gltf_schema.proofs.RowByRow.{all_read, read_none, read_row}
use Rattle.gltf_parts.specs.Accessor.{sparse_indices_rows, sparse_indices_members}
use Rattle.gltf_parts.proofs.accessor.sparse.derived.IndicesObject.read_rows.Goals as goal

pub returns : goal.returns
unfolding sparse_indices_rows sparse_indices_members
returns g c =
    all_read
    (read_row c.required.ensures
    (read_row (c.or_default.ensures.always _)
    (read_row c.required-2.ensures
    (read_row c.optional.ensures.left_out
    (read_row c.optional-2.ensures.left_out read_none)))))
