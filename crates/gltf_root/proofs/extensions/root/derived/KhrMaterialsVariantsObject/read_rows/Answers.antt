-- Written by tools/derive.py from crates/gltf_root/src/extensions/root.rt and
-- crates/gltf_root/specs/RootExtension.antt. Do not edit.
-- Each row is read in the table's order.
use Rattle.gltf_schema.proofs.RowByRow.{all_read, read_none, read_row}
use Rattle.gltf_root.specs.RootExtension.{variants_rows, variants_members}
use Rattle.gltf_root.proofs.extensions.root.derived.KhrMaterialsVariantsObject.read_rows.Goals as goal

pub returns : goal.returns
unfolding variants_rows variants_members
returns g c =
    all_read
    (read_row c.required.ensures read_none)
