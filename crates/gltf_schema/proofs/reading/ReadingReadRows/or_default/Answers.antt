use Rattle.std.proofs.Common.{Some, refl, sym, ap}
use Rattle.gltf_schema.proofs.OneRow.{value_read, member_taken}
use Rattle.gltf_schema.proofs.reading.ReadingReadRows.or_default.Goals as goal

pub returns-in-Some-clause-always : goal.returns-in-Some-clause-always
returns-in-Some-clause-always g c = λ t. value_read c.in-Some.ensures c.decode.ensures refl

pub returns-in-Some-clause-unless : goal.returns-in-Some-clause-unless
returns-in-Some-clause-unless g c = λ t. value_read c.in-Some.ensures c.decode.ensures refl

pub returns-in_default-clause-always : goal.returns-in_default-clause-always
returns-in_default-clause-always g c = λ t. member_taken c.in_default.ensures (λ start. ap Some (sym start))

pub returns-in_default-clause-unless : goal.returns-in_default-clause-unless
returns-in_default-clause-unless g c = λ t. member_taken c.in_default.ensures (λ start. ap Some (sym start))
