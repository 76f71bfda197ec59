-- What is wrong with the members of a document's JSON.
use Rattle.std.specs.Prelude.{◌≡◌, IsUtf8, ℕ, List, [], Bool, false, map, nat_eq, if◌then◌else◌, Option, Some, None, option_and_then, codes}
use Rattle.std.specs.List.{starts_with}
use Rattle.serde_json.specs.Data.{Data}
use Rattle.serde_json.specs.Find.{get, as_str}
use Rattle.serde_json.specs.Read.{read}
use Rattle.gltf_schema.specs.declared.outline.Outline.{Outline}
use Rattle.gltf_findings_members.specs.declared.notice.Notice.{Notice}
use Rattle.gltf_findings_members.specs.declared.notices.Notices.{Notices}
use Rattle.gltf_findings_members.specs.Noted.{Noted, noted}
use Rattle.gltf_findings_members.specs.Notices.{found_in, all_notices}

abbrev pub notices_of : Option Notices → List Notice
notices_of None = []
notices_of (Some n) = found_in n

abbrev pub held_in : Option Notices → List Noted
held_in n = map noted (notices_of n)

-- the version that a document says
abbrev pub version_in : Data → Option (List ℕ)
version_in d = option_and_then as_str (option_and_then (get (codes "version")) (get (codes "asset") d))

abbrev pub says_1 : Option (List ℕ) → Bool
says_1 None = false
says_1 (Some version) = starts_with nat_eq version (codes "1.")

abbrev pub is_version_1 : Data → Bool
is_version_1 d = says_1 (version_in d)

-- what is wrong with the members of a value beside the outline, if there is a value: nothing is said of glTF 1.0
abbrev pub value_members : Outline → Option Data → List Noted
value_members o None = []
value_members o (Some d) = if is_version_1 d then [] else all_notices o.nodes.items o.root d

-- bytes that are a text, which is JSON
abbrev pub IsJson : List ℕ → Type 0
IsJson bytes = IsUtf8 bytes × ((d : Data) × (read bytes ≡ Some d))
