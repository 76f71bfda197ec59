-- A document is stripped as an object is.
use Rattle.gltf_root.proofs.root.Root.drop_unknown.Goals as goal

pub returns : goal.returns
returns c = c.strip.ensures
