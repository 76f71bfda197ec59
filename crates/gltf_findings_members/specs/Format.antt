-- What a walk looks things up in: the outline of the document's type, and what the document says of extensions.
use Rattle.std.specs.Prelude.{ℕ, List, [], ◌∷◌, ◌++◌, map, Bool, false, ◌||◌, if◌then◌else◌, is_some, Option, Some, None, option_and_then, option_to_list, slice_get, codes}
use Rattle.std.specs.declared.alloc.Global.{Global}
use Rattle.std.specs.declared.vec.Vec.{Vec}
use denote.Ref.{Bor}
use Rattle.std.specs.BTreeSet.{contains_text}
use Rattle.serde_json.specs.Data.{Data}
use Rattle.serde_json.specs.Find.{as_null, as_object}
use Rattle.gltf_schema.specs.declared.outline.Member.{Member}
use Rattle.gltf_schema.specs.declared.outline.Shape.{Shape}
use Rattle.gltf_schema.specs.declared.outline.Shape.TheVariants.{Object}
use Rattle.gltf_findings_codes.specs.declared.code.Code.{Code}
use Rattle.gltf_findings_codes.specs.declared.code.Code.TheVariants.{NonObjectExtras, UndeclaredExtension, UnexpectedExtensionObject}
use Rattle.gltf_findings_members.specs.Misfits.{mismatch_unless}
use Rattle.gltf_findings_members.specs.Rows.{row_named, is_texture_info}
use Rattle.gltf_findings_members.specs.declared.table.Table.{Table}

pub record Format : Type 0 where
  -- the outline of the document's type
  pub nodes : List Shape
  -- whether the document lists an extension in `extensionsUsed`
  pub uses : List ℕ → Bool
  -- the rows of the extension objects of each object
  pub known : List (List Member)

abbrev pub lists_in : List (Bor (Vec Member Global)) → List (List Member)
lists_in known = map (λ rows. rows.now.items) known

abbrev pub format_of : Table → Format
format_of t = record { nodes = t.nodes.now; uses = contains_text t.used.now; known = lists_in t.known.now }

abbrev pub rows_of : Shape → Option (List Member)
rows_of (Object rows keeps) = Some rows.items
rows_of _ = None

-- the rows of the extension objects that a row has
abbrev pub extension_rows : List Shape → Option Member → Option (List Member)
extension_rows nodes None = None
extension_rows nodes (Some m) = option_and_then rows_of (slice_get nodes m.value)

-- the rows of the extension objects of an object
abbrev pub extension_list : List Shape → Shape → Option (List Member)
extension_list nodes s = option_and_then (λ rows. extension_rows nodes (row_named (codes "extensions") rows)) (rows_of s)

abbrev pub extension_lists : List Shape → List Shape → List (List Member)
extension_lists nodes [] = []
extension_lists nodes (s ∷ ss) = option_to_list (extension_list nodes s) ++ extension_lists nodes ss

-- some object has this extension
abbrev pub is_known : List (List Member) → List ℕ → Bool
is_known [] n = false
is_known (rows ∷ more) n = is_some (row_named n rows) || is_known more n

-- the first rows of extension objects of which one has this name
abbrev pub rows_with : List ℕ → List (List Member) → Option (List Member)
rows_with n [] = None
rows_with n (rows ∷ more) = if is_some (row_named n rows) then Some rows else rows_with n more

-- the rows of the extension objects of an object with these rows: those that its row `extensions` has.
-- KHR_texture_transform "may be defined on textureInfo structures", so all textureInfos have the same
abbrev pub extension_rows_of : List Shape → List (List Member) → List Member → Option Member → Option (List Member)
extension_rows_of nodes known rows m = if is_texture_info rows then rows_with (codes "KHR_texture_transform") known else extension_rows nodes m

-- an extension object of a name that the object's rows don't have: other objects may have it, and one that the table
-- doesn't know is an object
abbrev pub unknown_extension_code : Format → List ℕ → Data → Option Code
unknown_extension_code f n d = if is_known f.known n then Some UnexpectedExtensionObject else mismatch_unless (is_some (as_object d))

-- section 3.12: "All glTF extensions used in a model MUST be listed in the top-level extensionsUsed array"
abbrev pub undeclared_code : Format → List ℕ → Option Code
undeclared_code f n = if f.uses n then None else Some UndeclaredExtension

-- section 5.16: extras "SHOULD be a JSON object"; null is read as if the member were missing
abbrev pub extras_code : Data → Option Code
extras_code d = if is_some (as_null d) || is_some (as_object d) then None else Some NonObjectExtras
