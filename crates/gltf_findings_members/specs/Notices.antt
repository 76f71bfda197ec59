-- All notices of a value.
use Rattle.std.specs.Prelude.{ℕ, List, [], ◌++◌, false, map, slice_get}
use Rattle.serde_json.specs.Data.{Data}
use Rattle.gltf_base.specs.Steps.{Step}
use Rattle.gltf_schema.specs.declared.outline.Shape.{Shape}
use Rattle.gltf_findings_members.specs.declared.notice.Notice.{Notice}
use Rattle.gltf_findings_members.specs.declared.notices.Notices.{Notices}
use Rattle.gltf_findings_members.specs.Noted.{Noted, noted}
use Rattle.gltf_findings_members.specs.Format.{Format, extension_lists}
use Rattle.gltf_findings_members.specs.Required.{required_notices}
use Rattle.gltf_findings_members.specs.Uses.{uses}
use Rattle.gltf_findings_members.specs.Walk.{notices}

-- the notices that are held
abbrev pub found_in : Notices → List Notice
found_in n = n.found.items

abbrev pub notices_in : Notices → List Noted
notices_in n = map noted (found_in n)

abbrev pub notices_at : Format → ℕ → List Step → Data → List Noted
notices_at f root at d = notices f false (slice_get f.nodes root) at d ++ required_notices at d

-- what a document's own list of used extensions and the outline say
abbrev pub format_for : List Shape → Data → Format
format_for nodes d = record { nodes = nodes; uses = uses d; known = extension_lists nodes nodes }

-- what is wrong with a value that should be of the outline's type
abbrev pub all_notices : List Shape → ℕ → Data → List Noted
all_notices nodes root d = notices_at (format_for nodes d) root [] d
