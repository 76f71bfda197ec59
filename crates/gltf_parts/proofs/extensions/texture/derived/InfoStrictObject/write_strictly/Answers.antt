-- Written by tools/derive.py from crates/gltf_parts/src/extensions/texture.rt and
-- crates/gltf_parts/specs/Texture.antt. Do not edit.
-- Each row is written in the order of the names.
use Rattle.gltf_schema.proofs.RowsWritten.{written_with_others, write_none, write_row}
use Rattle.gltf_parts.specs.Texture.{info_extension_rows, info_extension_members}
use Rattle.gltf_parts.proofs.extensions.texture.derived.InfoStrictObject.write_strictly.Goals as goal

pub returns : goal.returns
unfolding info_extension_rows info_extension_members
returns g c =
    written_with_others c.others.ensures
    (write_row c.optional_strictly.ensures.optional write_none)
