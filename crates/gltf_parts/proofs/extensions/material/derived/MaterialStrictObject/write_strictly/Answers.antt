-- Written by tools/derive.py from crates/gltf_parts/src/extensions/material.rt and
-- crates/gltf_parts/specs/MaterialExtension.antt. Do not edit.
-- Each row is written in the order of the names.
use Rattle.gltf_schema.proofs.RowsWritten.{written_with_others, write_none, write_row}
use Rattle.gltf_schema.proofs.NullFreeRows.{null_free}
use Rattle.gltf_parts.specs.MaterialExtension.{emissive_strength_kind, ior_kind}
use Rattle.gltf_parts.specs.MaterialExtensionDerived.{emissive_strength_no_nulls, ior_no_nulls}
use Rattle.gltf_parts.specs.MaterialExtension.{material_extension_rows, material_extension_members}
use Rattle.gltf_parts.proofs.extensions.material.derived.MaterialStrictObject.write_strictly.Goals as goal

pub returns : goal.returns
unfolding material_extension_rows material_extension_members
returns g c =
    written_with_others c.others.ensures
    (write_row (null_free emissive_strength_kind emissive_strength_no_nulls c.optional.ensures.optional)
    (write_row (null_free ior_kind ior_no_nulls c.optional-2.ensures.optional)
    (write_row c.optional_strictly.ensures.optional
    (write_row c.optional_strictly-2.ensures.optional
    (write_row c.optional_strictly-3.ensures.optional
    (write_row c.optional-3.ensures.optional
    (write_row c.optional_strictly-4.ensures.optional write_none)))))))
