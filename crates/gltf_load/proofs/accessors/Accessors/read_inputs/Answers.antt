use Rattle.gltf_accessors.specs.declared.format.Usage.TheVariants as usages
use Rattle.gltf_accessors.specs.Data.{IsAccessorAt}
use Rattle.gltf_accessors.specs.Reads.{IsFloatsFault}
use Rattle.gltf_load.proofs.Reading.{at_ok}
use Rattle.gltf_load.proofs.accessors.Accessors.read_inputs.Goals as goal

pub returns-in-Ok : goal.returns-in-Ok
returns-in-Ok c = at_ok usages.Inputs IsAccessorAt (IsFloatsFault 1) _ _ _ _ _ _ c.number-number.ensures c.in-Ok.ensures.found c.inputs.ensures c.with_number.ensures
