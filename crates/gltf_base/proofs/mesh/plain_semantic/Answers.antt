-- A text that is none of the three names is read as that of a set.
use Rattle.std.proofs.Common.{◌∙◌, sym}
use Rattle.gltf_base.proofs.KeyLemmas.{plain_key-others}
use Rattle.gltf_base.proofs.mesh.plain_semantic.Goals as goal

pub returns-in_default : goal.returns-in_default
returns-in_default c = c.set_semantic.ensures ∙ sym (plain_key-others c.args.text.now c.in_default.not-POSITION c.in_default.not-NORMAL c.in_default.not-TANGENT)
