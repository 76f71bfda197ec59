-- What is in a Writing: the members that are written so far, or the error that was met.
use Rattle.std.specs.Prelude.{String, Result}
use Rattle.std.specs.declared.alloc.Global.{Global}
use Rattle.std.specs.BTreeMap.{BTreeMap}
use Rattle.serde_json.specs.Data.{Members}
use Rattle.serde_json.specs.View.{members_view}
use Rattle.serde_json.specs.declared.value.Value.{Value}
use Rattle.gltf_base.specs.declared.error.Error.{Error}
use Rattle.gltf_schema.specs.declared.writing.Writing.{Writing}
use Rattle.gltf_schema.specs.RowReading.{members_or_error}

-- the members that are written so far, or why they are not
abbrev pub written_or_error : Result (BTreeMap (String Global) Value) Error → Result Members Error
written_or_error = members_or_error (λ m. members_view m.entries)

abbrev pub writing_state : Writing → Result Members Error
writing_state w = written_or_error w.state
