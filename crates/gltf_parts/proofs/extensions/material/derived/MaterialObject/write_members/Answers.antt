-- Written by tools/derive.py from crates/gltf_parts/src/extensions/material.rt and
-- crates/gltf_parts/specs/MaterialExtension.antt. Do not edit.
-- Each row is written in the order of the names.
use Rattle.gltf_schema.proofs.RowsWritten.{written_with_others, write_none, write_row}
use Rattle.gltf_parts.specs.MaterialExtension.{material_extension_rows, material_extension_members}
use Rattle.gltf_parts.proofs.extensions.material.derived.MaterialObject.write_members.Goals as goal

pub returns : goal.returns
unfolding material_extension_rows material_extension_members
returns g c =
    written_with_others c.others.ensures
    (write_row c.optional.ensures.optional
    (write_row c.optional-2.ensures.optional
    (write_row c.optional-3.ensures.optional
    (write_row c.optional-4.ensures.optional
    (write_row c.optional-5.ensures.optional
    (write_row c.optional-6.ensures.optional
    (write_row c.optional-7.ensures.optional write_none)))))))
