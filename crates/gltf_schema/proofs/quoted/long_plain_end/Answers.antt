use Rattle.std.proofs.Common.{sym, ◌∙◌, arith}
use Rattle.gltf_schema.proofs.Plains.{stops_at, goes_past}
use Rattle.gltf_schema.proofs.quoted.long_plain_end.Goals as goal

pub returns-then-found-ne0 : goal.returns-then-found-ne0
returns-then-found-ne0 c = stops_at c.args.text.now c.loop-end.end c.stops-found.result (omega arith) c.stops-found.ensures (omega arith) ∙ sym c.loop-end.invariant.0

pub loop-end-preserved : goal.loop-end-preserved
loop-end-preserved c = (c.loop-end.invariant.0 ∙ goes_past c.args.text.now c.loop-end.end c.stops-found.result (omega arith) c.stops-found.ensures (omega arith), omega arith)
