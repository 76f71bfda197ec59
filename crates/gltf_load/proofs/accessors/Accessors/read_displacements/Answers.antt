use Rattle.std.proofs.Common.{ap, option_map}
use Rattle.gltf_base.specs.Indexes.{index_number}
use Rattle.gltf_accessors.specs.declared.format.Usage.TheVariants as usages
use Rattle.gltf_accessors.specs.Data.{IsAccessorAt}
use Rattle.gltf_accessors.specs.Reads.{IsFloatsFault}
use Rattle.gltf_load.proofs.Reading.{named_ok}
use Rattle.gltf_load.proofs.accessors.Accessors.read_displacements.Goals as goal

pub returns-in-Ok : goal.returns-in-Ok
returns-in-Ok c = named_ok usages.Displacements IsAccessorAt (IsFloatsFault 3) _ _ _ _ _ _ _ _ (ap (option_map index_number) c.in-Some.is) c.number.ensures c.number-in-Ok.ensures c.in-Ok.ensures.found c.displacements.ensures c.optional_with_number.ensures
