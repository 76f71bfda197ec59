use Rattle.gltf_accessors.specs.Formats.{usage_of}
use Rattle.gltf_accessors.specs.Reads.{IsOutputsAt, IsOutputsFault}
use Rattle.gltf_load.proofs.Reading.{at_ok, at_err}
use Rattle.gltf_load.proofs.accessors.Accessors.read_outputs.Goals as goal

pub returns-in-Ok : goal.returns-in-Ok
returns-in-Ok c = at_ok (usage_of c.args.property) (IsOutputsAt c.args.property) (IsOutputsFault c.args.property) _ _ _ _ _ _ c.number-number.ensures c.in-Ok.ensures.found c.outputs.ensures c.with_number.ensures

pub returns-in-Err : goal.returns-in-Err
returns-in-Err c = at_err (usage_of c.args.property) (IsOutputsAt c.args.property) (IsOutputsFault c.args.property) _ _ _ _ c.number-number.ensures c.in-Err.ensures.none
