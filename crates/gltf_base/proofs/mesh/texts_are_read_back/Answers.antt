-- The text of each key is read as that key.
use Rattle.gltf_base.proofs.KeyLemmas.{key_named-key_text}
use Rattle.gltf_base.proofs.mesh.texts_are_read_back.Goals as goal

pub returns : goal.returns
returns c = key_named-key_text
