use Rattle.std.proofs.Common.{sym, ◌∙◌, refl}
use Rattle.gltf_accessors.specs.declared.format.Usage.TheVariants as usages
use Rattle.gltf_accessors.specs.Data.{IsAccessorAt}
use Rattle.gltf_accessors.specs.Reads.{IsFloatsFault}
use Rattle.gltf_load.proofs.Reading.{named_ok}
use Rattle.gltf_load.proofs.reader.Reader.read_normals.Goals as goal

pub returns-in-Ok : goal.returns-in-Ok
returns-in-Ok c = named_ok usages.Normals IsAccessorAt (IsFloatsFault 3) _ _ _ _ _ _ _ _ (sym c.accessor_of.ensures ∙ c.in-Some.is) refl refl c.in-Ok.ensures.found c.normals.ensures c.optional_with_number.ensures
