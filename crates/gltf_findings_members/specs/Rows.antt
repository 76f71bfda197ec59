-- The members that an object of the format has.
use Rattle.std.specs.Prelude.{ℕ, List, [], ◌∷◌, ◌++◌, Bool, true, false, not, ◌&&◌, is_some, is_none, if◌then◌else◌, Option, Some, None, bytes_eq, codes}
use Rattle.serde_json.specs.Data.{Data, Members}
use Rattle.serde_json.specs.Find.{get, as_null}
use Rattle.gltf_findings_members.specs.Empty.{empty_object_code}
use Rattle.gltf_base.specs.Steps.{Step, field}
use Rattle.gltf_schema.specs.declared.outline.Presence.{Presence}
use Rattle.gltf_schema.specs.declared.outline.Presence.TheVariants.{Required, OrNull}
use Rattle.gltf_schema.specs.declared.outline.Member.{Member}
use Rattle.gltf_findings_codes.specs.declared.code.Code.{Code}
use Rattle.gltf_findings_codes.specs.declared.code.Code.TheVariants.{UndefinedProperty, UnexpectedProperty, MeshPrimitiveInvalidAttribute}
use Rattle.gltf_findings_members.specs.Attributes.{is_attribute}
use Rattle.gltf_findings_members.specs.Noted.{Noted, maybe_note}

abbrev pub row_named : List ℕ → List Member → Option Member
row_named n [] = None
row_named n (m ∷ ms) = if bytes_eq m.name.now n then Some m else row_named n ms

abbrev pub or_null : Presence → Bool
or_null OrNull = true
or_null _ = false

abbrev pub is_required : Presence → Bool
is_required Required = true
is_required _ = false

-- the table reads null as if the member were missing
abbrev pub reads_null_as_absent : Member → Data → Bool
reads_null_as_absent m d = or_null m.presence && is_some (as_null d)

-- section 5.7.1: "When undefined, the animated object MAY be defined by an extension"
abbrev pub is_left_open : List ℕ → Bool
is_left_open n = bytes_eq n (codes "node")

abbrev pub is_needed : Member → Bool
is_needed m = is_required m.presence && not (is_left_open m.name.now)

abbrev pub is_missing : Data → Member → Option Code
is_missing d m = if is_needed m && is_none (get m.name.now d) then Some UndefinedProperty else None

-- the members of an object that have to be there and are missing, in the order of rows
abbrev pub missing_notices : List Step → Data → List Member → List Noted
missing_notices at d [] = []
missing_notices at d (m ∷ ms) = maybe_note (at ++ field m.name.now ∷ []) (is_missing d m) ++ missing_notices at d ms

-- section 3.7.2.2: a morph target displaces attributes, and positions among them
abbrev pub is_target : List Member → Bool
is_target ms = is_some (row_named (codes "POSITION") ms)

-- sections 5.20, 5.21 and 5.30: normalTextureInfo, occlusionTextureInfo and textureInfo all have `index` and `texCoord`
abbrev pub is_texture_info : List Member → Bool
is_texture_info ms = is_some (row_named (codes "index") ms) && is_some (row_named (codes "texCoord") ms)

-- a member that no row names; a morph target may have attributes that the table doesn't name
abbrev pub unknown_code : List Member → List ℕ → Option Code
unknown_code ms n = if is_target ms then (if is_attribute n then None else Some MeshPrimitiveInvalidAttribute) else Some UnexpectedProperty

-- a morph target has an attribute
abbrev pub empty_target_code : List Member → Members → Option Code
empty_target_code rows ms = if is_target rows then empty_object_code ms else None

-- what is wrong with an object by itself
abbrev pub own_notices : List Step → List Member → Members → Data → List Noted
own_notices at rows ms d = maybe_note at (empty_target_code rows ms) ++ missing_notices at d rows
