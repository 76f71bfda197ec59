use Rattle.std.proofs.Common.{arith}
use Rattle.json.proofs.Printed.Decimals.{IsNumber-decimal}
use Rattle.gltf_schema.proofs.tokens.PrettyTokens.whole.Goals as goal

pub token-requires : goal.token-requires
token-requires c = rw c.format.ensures.text (IsNumber-decimal c.args.n (omega arith))
