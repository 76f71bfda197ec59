use Rattle.gltf_schema.proofs.ReadPlain.{read_plain}
use Rattle.gltf_schema.proofs.laws.read_trees_are_plain.Goals as goal

pub returns : goal.returns
returns c kind d t sound h = read_plain kind d t sound h
