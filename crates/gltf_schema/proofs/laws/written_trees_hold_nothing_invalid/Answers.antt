use Rattle.gltf_schema.proofs.RefusedWhereInvalid.{written_valid}
use Rattle.gltf_schema.proofs.laws.written_trees_hold_nothing_invalid.Goals as goal

pub returns : goal.returns
returns c kind t d h = written_valid kind t d h
