use Rattle.gltf_schema.proofs.ReadBack.{read_back}
use Rattle.gltf_schema.proofs.laws.written_trees_are_read_back.Goals as goal

pub returns : goal.returns
returns c kind t d sound plain h = read_back kind t d sound plain h
