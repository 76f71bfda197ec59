-- Written by tools/derive.py from crates/gltf_parts/src/texture.rt and
-- crates/gltf_parts/specs/Texture.antt. Do not edit.
-- Each row is read in the table's order.
use Rattle.gltf_schema.proofs.RowByRow.{all_read, read_none, read_row, source_read}
use Rattle.gltf_parts.specs.Texture.{texture_rows, texture_members}
use Rattle.gltf_parts.proofs.texture.derived.TextureObject.read_rows.Goals as goal

pub returns : goal.returns
unfolding texture_rows texture_members
returns g c =
    all_read
    (read_row c.optional.ensures.left_out
    (read_row c.optional-2.ensures.left_out
    (read_row c.optional-3.ensures.left_out
    (read_row (source_read g.met.R.ReadRows.as_source (c.or_default.ensures.unless _))
    (read_row c.optional-4.ensures.left_out read_none)))))
