-- Members that no row names: attributes and extension objects.
use Rattle.std.specs.Prelude.{ℕ, List, [], ◌∷◌, ◌++◌, if◌then◌else◌, Option, Some, None}
use Rattle.serde_json.specs.Data as json
use Rattle.serde_json.specs.Data.{Data, Members}
use Rattle.gltf_base.specs.Steps.{Step, field}
use Rattle.gltf_schema.specs.declared.outline.Member.{Member}
use Rattle.gltf_findings_codes.specs.declared.code.Code.{Code}
use Rattle.gltf_findings_codes.specs.declared.code.Code.TheVariants.{MeshPrimitiveInvalidAttribute}
use Rattle.gltf_findings_members.specs.Attributes.{is_attribute}
use Rattle.gltf_findings_members.specs.Empty.{empty_object_code}
use Rattle.gltf_findings_members.specs.Misfits.{index_misfit}
use Rattle.gltf_findings_members.specs.Noted.{Noted, maybe_note}
use Rattle.gltf_findings_members.specs.Rows.{row_named}

abbrev pub attribute_code : List ℕ → Option Code
attribute_code n = if is_attribute n then None else Some MeshPrimitiveInvalidAttribute

-- the attributes of a primitive, each an index
abbrev pub attribute_notices : List Step → Members → List Noted
attribute_notices at json.no_members = []
attribute_notices at (json.member n d ms) = maybe_note (at ++ field n ∷ []) (attribute_code n) ++ maybe_note (at ++ field n ∷ []) (index_misfit d) ++ attribute_notices at ms

abbrev pub extension_row : Option (List Member) → List ℕ → Option Member
extension_row None n = None
extension_row (Some rows) n = row_named n rows

abbrev pub attributes_notices : List Step → Members → List Noted
attributes_notices at ms = maybe_note at (empty_object_code ms) ++ attribute_notices at ms
