-- The rows are stripped in turn, and then the members that no row names.
use Rattle.gltf_schema.proofs.RowsStripped.{object_stripped}
use Rattle.gltf_schema.proofs.stripping.strip_object.Goals as goal

pub returns : goal.returns
returns g c = object_stripped g.T.Object.rule c.read_rows.ensures
