-- A control character is escaped, any other is written as it is.
use Rattle.std.proofs.Common.{arith}
use Rattle.std.proofs.lemmas.Grind.{common_steps}
use Rattle.gltf_report_lines.proofs.Escapes.{control_character, plain_character}
use Rattle.gltf_report_lines.proofs.escape.push_character.Goals as goal

pub returns-then-is_ascii_control : goal.returns-then-is_ascii_control
returns-then-is_ascii_control c =
    let escapes = control_character c.args.character c.if-is_ascii_control.ensures.cases in
    grind (arith, common_steps, escapes)

pub returns-else-is_ascii_control : goal.returns-else-is_ascii_control
returns-else-is_ascii_control c =
    let stays = plain_character c.args.character c.if-is_ascii_control.ensures.cases in
    grind (arith, common_steps, stays)
