-- Written by tools/derive.py from crates/gltf_parts/src/extensions/texture.rt and
-- crates/gltf_parts/specs/Texture.antt. Do not edit.
-- Each row is written in the order of the names.
use Rattle.gltf_schema.proofs.RowsWritten.{all_written, write_none, write_row}
use Rattle.gltf_parts.specs.Texture.{texture_transform_rows, texture_transform_members}
use Rattle.gltf_parts.proofs.extensions.texture.derived.TextureTransformStrictObject.write_strictly.Goals as goal

pub returns : goal.returns
unfolding texture_transform_rows texture_transform_members
returns g c =
    all_written
    (write_row c.optional.ensures.optional
    (write_row c.optional-2.ensures.sometimes
    (write_row c.optional-3.ensures.sometimes
    (write_row c.optional-4.ensures.sometimes
    (write_row c.optional-5.ensures.optional write_none)))))
