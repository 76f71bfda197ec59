use Rattle.gltf_base.proofs.Escapes.{unescape_escaped}
use Rattle.gltf_base.proofs.laws.names_are_read_back.Goals as goal

pub returns : goal.returns
returns c = unescape_escaped
