use Rattle.std.proofs.Common.{Some, refl, sym, ap}
use Rattle.gltf_schema.proofs.OneRow.{value_read, member_taken}
use Rattle.gltf_schema.proofs.reading.ReadingReadRows.sometimes.Goals as goal

pub returns-in-Some : goal.returns-in-Some
returns-in-Some g c = value_read c.in-Some.ensures c.decode_some.ensures refl

pub returns-in_default : goal.returns-in_default
returns-in_default g c = member_taken c.in_default.ensures (λ start. ap Some (sym start))
