-- What decoding a text gives; a growth may also be refused.
use Rattle.std.specs.Prelude.{Option, Some, None, Result, Err, ⊤}
use Rattle.gltf_base.specs.declared.error.Error.{Error}
use Rattle.gltf_base.specs.declared.error.Error.TheVariants as errors
use Rattle.gltf_schema.specs.Outcome.{Reads}

-- what the table reads of the text's value; where there is no value, the text is no JSON
abbrev pub IsDecoded : {X Y : Type 0} → (X → Y) → Option (Option Y) → Result X Error → Type 0
IsDecoded view (Some read) result = Reads view result read
IsDecoded view None (Err errors.Json) = ⊤
IsDecoded view None (Err (errors.Memory e)) = ⊤
IsDecoded view None _ = ⊥
