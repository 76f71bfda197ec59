-- The rules that a caller gets without saying any are the standard ones.
use Rattle.std.proofs.Common.{◌↔◌, subst}
use Rattle.std.specs.Prelude.{IsTrue}
use Rattle.gltf_root.specs.Root.{root_tree}
use Rattle.gltf_validation.specs.Clean.{IsClean}
use Rattle.gltf_validation.proofs.validate_root.RootValidateRoot.is_clean.Goals as goal

pub returns : goal.returns
returns c = subst (λ r. IsTrue c.is_clean_by.result ↔ IsClean r (root_tree c.args.self.now)) c.new.ensures c.is_clean_by.ensures
