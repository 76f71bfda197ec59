-- What the bytes of a document are read as.
use Rattle.std.specs.Prelude.{◌≡◌, ℕ, List, Option, Some, None, if◌then◌else◌, Result, Ok, Err, ⊤}
use Rattle.std.specs.Str.{is_utf8}
use Rattle.serde_json.specs.Data.{Data}
use Rattle.serde_json.specs.Read.{read as read_json}
use Rattle.gltf_schema.specs.Tree.{Tree}
use Rattle.gltf_schema.specs.Read.{read}
use Rattle.gltf_base.specs.declared.error.Error.{Error}
use Rattle.gltf_base.specs.declared.error.Error.TheVariants as errors
use Rattle.gltf_base.specs.Device.{Seen, IsWithin, IsCause, IsReadError}
use Rattle.gltf_root.specs.Root.{root_kind, root_tree}
use Rattle.gltf_root.specs.declared.root.Root.{Root}

pub data Answer : Type 0 where
  no_json : Answer
  no_document : Answer
  document : Tree → Answer

abbrev pub tree_answer : Option Tree → Answer
tree_answer None = no_document
tree_answer (Some t) = document t

abbrev pub value_answer : Option Data → Answer
value_answer None = no_json
value_answer (Some d) = tree_answer (read root_kind d)

-- bytes that are a text, that is JSON, that the table reads
abbrev pub answer : List ℕ → Answer
answer bytes = if is_utf8 bytes then value_answer (read_json bytes) else no_json

-- the result is this answer, unless memory was refused
abbrev pub IsAnswer : Answer → Result Root Error → Type 0
IsAnswer due (Ok root) = due ≡ document (root_tree root)
IsAnswer due (Err errors.Json) = due ≡ no_json
IsAnswer due (Err errors.Schema) = due ≡ no_document
IsAnswer due (Err (errors.Memory e)) = ⊤
IsAnswer due (Err _) = ⊥

-- the same, where reading may also have been given up before the end
abbrev pub IsReadAnswer : Answer → Result Root Error → Type 0
IsReadAnswer due (Err errors.Read) = ⊤
IsReadAnswer due (Err errors.TooLong) = ⊤
IsReadAnswer due result = IsAnswer due result

-- what comes in place of a document: that the bytes are no document, or why reading was given up
abbrev pub IsRefusal : Error → Type 0
IsRefusal errors.Json = ⊤
IsRefusal errors.Schema = ⊤
IsRefusal e = IsReadError e

-- how many bytes a document may have, and how many calls its reader may take, the one at the end
-- among them
abbrev pub byte_limit : ℕ
byte_limit = 1073741824

abbrev pub call_limit : ℕ
call_limit = 2147483648

-- how a fresh reader was read: to its end within the limits, or not, for the cause that the error
-- names
abbrev pub IsReading : ℕ → ℕ → Seen → Result Root Error → Type 0
IsReading bytes calls seen (Ok root) = IsWithin bytes calls seen
IsReading bytes calls seen (Err errors.Json) = IsWithin bytes calls seen
IsReading bytes calls seen (Err errors.Schema) = IsWithin bytes calls seen
IsReading bytes calls seen (Err e) = IsCause bytes calls seen e
