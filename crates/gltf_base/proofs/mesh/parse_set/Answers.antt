-- What std parses is the number of a set.
use Rattle.std.proofs.Common.{◌∙◌}
use Rattle.gltf_base.proofs.SetLemmas.{parsed-set}
use Rattle.gltf_base.proofs.mesh.parse_set.Goals as goal

pub returns : goal.returns
returns c = c.ok.ensures.value ∙ parsed-set c.args.text.now _ c.parse.ensures.value.0
