use Rattle.std.proofs.Common.{◌≡◌, [], map}
use Rattle.serde_json.specs.View.{members_view}
use Rattle.gltf_schema.specs.Kind.{IndexInto}
use Rattle.gltf_schema.specs.Read.{read_entries}
use Rattle.gltf_schema.specs.Refused.{refused_entry}
use Rattle.gltf_schema.specs.Fields.{entry_of}
use Rattle.gltf_schema.proofs.attributes.decode_entries.Given as goal

-- the members before this one are read, and none of them is refused
abbrev pub invariant-loop-name : goal.invariant-loop-name
invariant-loop-name g l =
    let kind = IndexInto g.P.Item.Listed.list in
    (read_entries (map entry_of l.found.entries) (members_view l.name-iterator) ≡ read_entries [] (members_view l.fn.members.entries))
    × (refused_entry kind (members_view l.name-iterator) ≡ refused_entry kind (members_view l.fn.members.entries))
