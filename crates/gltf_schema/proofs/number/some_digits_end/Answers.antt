use Rattle.std.proofs.Common.{arith}
use Rattle.gltf_schema.proofs.Lexing.{digits_part, digits_begin}
use Rattle.gltf_schema.proofs.number.some_digits_end.Goals as goal

pub returns-else-end-at-clause-part : goal.returns-else-end-at-clause-part
returns-else-end-at-clause-part c = digits_part c.args.text.now c.args.at c.digits_end-end.result c.requires c.digits_end-end.ensures (omega (arith, c.digits_end-end.ensures))

pub returns-else-end-at-clause-digit : goal.returns-else-end-at-clause-digit
returns-else-end-at-clause-digit c = digits_begin c.args.text.now c.args.at c.digits_end-end.result c.digits_end-end.ensures (omega (arith, c.digits_end-end.ensures))
