-- Any other character is written as it is.
use Rattle.std.proofs.Common.{arith}
use Rattle.std.proofs.lemmas.Grind.{common_steps}
use Rattle.gltf_base.proofs.Escapes.{plain_character}
use Rattle.gltf_findings_lines.proofs.part.push_character.Goals as goal

pub returns-in_default : goal.returns-in_default
returns-in_default c = grind (arith, common_steps, plain_character)
