-- Written by tools/derive.py from crates/gltf_parts/src/texture.rt and
-- crates/gltf_parts/specs/Texture.antt. Do not edit.
-- Each row is written in the order of the names.
use Rattle.gltf_schema.proofs.RowsWritten.{all_written, write_none, write_row}
use Rattle.gltf_parts.specs.Texture.{info_rows, info_members}
use Rattle.gltf_parts.proofs.texture.derived.InfoStrictObject.write_strictly.Goals as goal

pub returns : goal.returns
unfolding info_rows info_members
returns g c =
    all_written
    (write_row c.optional_strictly.ensures.optional
    (write_row c.optional.ensures.optional
    (write_row c.always.ensures.required
    (write_row (c.always-2.ensures.always _) write_none))))
