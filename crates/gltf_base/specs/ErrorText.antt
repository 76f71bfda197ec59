-- What an error prints.
use Rattle.std.specs.Prelude.{ℕ, List, codes}
use Rattle.gltf_base.specs.declared.error.Error.{Error}
use Rattle.gltf_base.specs.declared.error.Error.TheVariants as errors

abbrev pub error_text : Error → List ℕ
error_text errors.Json = codes "not JSON"
error_text errors.Schema = codes "not a glTF document"
error_text errors.InvalidItem = codes "invalid item"
error_text errors.Read = codes "read failed"
error_text errors.Write = codes "write failed"
error_text (errors.Memory e) = codes "no memory"
error_text errors.TooLong = codes "input too long"
