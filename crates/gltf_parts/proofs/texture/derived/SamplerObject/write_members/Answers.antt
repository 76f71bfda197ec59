-- Written by tools/derive.py from crates/gltf_parts/src/texture.rt and
-- crates/gltf_parts/specs/Texture.antt. Do not edit.
-- Each row is written in the order of the names.
use Rattle.gltf_schema.proofs.RowsWritten.{all_written, write_none, write_row}
use Rattle.gltf_parts.specs.Texture.{sampler_rows, sampler_members}
use Rattle.gltf_parts.proofs.texture.derived.SamplerObject.write_members.Goals as goal

pub returns : goal.returns
unfolding sampler_rows sampler_members
returns g c =
    all_written
    (write_row c.optional.ensures.optional
    (write_row c.optional-2.ensures.optional
    (write_row c.optional-3.ensures.optional
    (write_row c.optional-4.ensures.optional
    (write_row c.optional-5.ensures.optional
    (write_row (c.always.ensures.always _)
    (write_row (c.always-2.ensures.always _) write_none)))))))
