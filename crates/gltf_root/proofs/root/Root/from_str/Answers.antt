-- A text is answered as its bytes.
use Rattle.std.proofs.Common.{subst}
use Rattle.gltf_root.specs.Answer.{IsAnswer, answer}
use Rattle.gltf_root.proofs.root.Root.from_str.Goals as goal

pub returns-clause-by_text : goal.returns-clause-by_text
returns-clause-by_text c = subst (λ bytes. IsAnswer (answer bytes) c.from_slice.result) c.as_bytes.ensures.value c.from_slice.ensures.by_bytes

pub returns-clause-plain : goal.returns-clause-plain
returns-clause-plain c = c.from_slice.ensures.plain
