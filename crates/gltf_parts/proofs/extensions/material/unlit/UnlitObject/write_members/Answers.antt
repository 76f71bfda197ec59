-- There is no row.
use Rattle.gltf_schema.proofs.RowsWritten.{all_written, write_none}
use Rattle.gltf_parts.proofs.extensions.material.unlit.UnlitObject.write_members.Goals as goal

pub returns : goal.returns
returns g c =
    all_written write_none
