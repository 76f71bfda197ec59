use Rattle.std.proofs.Common.{Ok, Err, refl}
use Rattle.gltf_schema.proofs.reading.Reading.decode_some.Goals as goal

pub returns-in-Ok : goal.returns-in-Ok
returns-in-Ok g c = record { outcome = Ok tt; reads = c.in-Ok.ensures.by_table; is = refl }

pub returns-in-Err : goal.returns-in-Err
returns-in-Err g c = record { outcome = Err c.in-Err.e; reads = c.in-Err.ensures.by_table; is = refl }
