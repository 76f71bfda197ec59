use Rattle.std.proofs.Common.{arith}
use Rattle.gltf_schema.proofs.Plains.{within_text, stops_at}
use Rattle.gltf_schema.proofs.quoted.plain_end.Goals as goal

pub returns-then-found-ne0-clause-value : goal.returns-then-found-ne0-clause-value
returns-then-found-ne0-clause-value c = stops_at c.args.text.now c.args.at c.stops-found.result (omega arith) c.stops-found.ensures (omega arith)

pub returns-then-found-ne0-clause-within : goal.returns-then-found-ne0-clause-within
returns-then-found-ne0-clause-within c = within_text c.args.text.now c.args.at _ c.requires (stops_at c.args.text.now c.args.at c.stops-found.result (omega arith) c.stops-found.ensures (omega arith))

pub returns-clause-within : goal.returns-clause-within
returns-clause-within c = within_text c.args.text.now c.args.at _ c.requires c.long_plain_end.ensures
