use Rattle.std.proofs.Common.{ap}
use Rattle.gltf_schema.specs.Writings.{written_or_error}
use Rattle.gltf_schema.proofs.RowSteps.{always_there}
use Rattle.gltf_schema.proofs.RowsPut.{put_fails, put_goes_on}
use Rattle.gltf_schema.proofs.strict.WritingStrictRows.always_strictly.Goals as goal

pub returns-in-Err-clause-required : goal.returns-in-Err-clause-required
returns-in-Err-clause-required g c = put_fails (ap written_or_error c.in-Ok.is) c.in-Err.ensures

pub returns-in_default-put_strictly-clause-required : goal.returns-in_default-put_strictly-clause-required
returns-in_default-put_strictly-clause-required g c = put_goes_on (ap written_or_error c.in-Ok.is) c.in_default-put_strictly.ensures

pub returns-in-Err-clause-always : goal.returns-in-Err-clause-always
returns-in-Err-clause-always g c = λ default. always_there (put_fails (ap written_or_error c.in-Ok.is) c.in-Err.ensures)

pub returns-in_default-put_strictly-clause-always : goal.returns-in_default-put_strictly-clause-always
returns-in_default-put_strictly-clause-always g c = λ default. always_there (put_goes_on (ap written_or_error c.in-Ok.is) c.in_default-put_strictly.ensures)
