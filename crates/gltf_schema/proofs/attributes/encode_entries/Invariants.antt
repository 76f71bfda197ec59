-- The entries that the iterator has left are still to be written, and their keys are among all
-- keys.
use Rattle.std.proofs.Common.{◌≡◌, map, true}
use Rattle.serde_json.specs.Data.{no_members}
use Rattle.serde_json.specs.View.{members_view}
use Rattle.gltf_schema.specs.Fields.{entry_of}
use Rattle.gltf_schema.specs.Invalid.{any_unknown}
use Rattle.gltf_schema.specs.Write.{write_entries}
use Rattle.gltf_schema.proofs.attributes.encode_entries.Given as goal

abbrev pub invariant-loop-key : goal.invariant-loop-key
invariant-loop-key g l =
    (write_entries (map entry_of l.key-iterator) (members_view l.written.entries) ≡ write_entries (map entry_of l.attributes.entries) no_members)
    × (any_unknown (map entry_of l.key-iterator) ≡ true → any_unknown (map entry_of l.attributes.entries) ≡ true)
