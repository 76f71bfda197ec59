-- What a spelling is read as has that spelling.
use Rattle.gltf_base.proofs.ItemLemmas.{item_spelled-Valid}
use Rattle.gltf_base.proofs.choice.spellings_are_read_back.Goals as goal

pub returns-clause-read : goal.returns-clause-read
returns-clause-read g c = λ s x e. item_spelled-Valid g.T.Choice.spelling g.T.Choice.listed s x e
