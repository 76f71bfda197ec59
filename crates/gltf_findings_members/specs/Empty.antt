-- Objects that must not be empty.
use Rattle.std.specs.Prelude.{Option, Some, None}
use Rattle.serde_json.specs.Data as json
use Rattle.serde_json.specs.Data.{Members}
use Rattle.gltf_findings_codes.specs.declared.code.Code.{Code}
use Rattle.gltf_findings_codes.specs.declared.code.Code.TheVariants.{EmptyEntity}

abbrev pub empty_object_code : Members → Option Code
empty_object_code json.no_members = Some EmptyEntity
empty_object_code (json.member n d ms) = None
