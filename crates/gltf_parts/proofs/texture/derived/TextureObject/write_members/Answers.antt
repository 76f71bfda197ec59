-- Written by tools/derive.py from crates/gltf_parts/src/texture.rt and
-- crates/gltf_parts/specs/Texture.antt. Do not edit.
-- Each row is written in the order of the names.
use Rattle.std.proofs.Common.{ap}
use Rattle.gltf_schema.specs.Tree.{index}
use Rattle.gltf_schema.proofs.RowsWritten.{all_written, write_none, write_row, default_as, source_written}
use Rattle.gltf_parts.specs.Texture.{texture_rows, texture_members}
use Rattle.gltf_parts.proofs.texture.derived.TextureObject.write_members.Goals as goal

pub returns : goal.returns
unfolding texture_rows texture_members
returns g c =
    all_written
    (write_row c.optional.ensures.optional
    (write_row c.optional-2.ensures.optional
    (write_row c.optional-3.ensures.optional
    (write_row c.optional-4.ensures.optional
    (write_row (default_as (ap index c.new.ensures) (source_written c.unless.ensures)) write_none)))))
