use Rattle.std.proofs.Common.{◌≡◌, ◌≤◌, ℕ, Some, [], length, map}
use Rattle.json.specs.Json.{value, members}
use Rattle.serde_json.specs.Data.{Members, no_members}
use Rattle.serde_json.specs.Read.{of_members, converted}
use Rattle.gltf_schema.specs.Fields.{entry_of}
use Rattle.gltf_schema.specs.Read.{read_entries}
use Rattle.gltf_schema.proofs.attributes.read_entries.Given as goal

-- the members so far, and the entries that they make
abbrev pub invariant-members : goal.invariant-members
invariant-members g l =
    (n : ℕ) × (ms : Members) × (length l.from.reader ≤ n)
    × (converted (λ x. of_members x no_members) (members (value l.initial.from.depth) (length l.initial.from.reader) l.initial.from.reader) ≡ converted (λ x. of_members x ms) (members (value l.initial.from.depth) n l.from.reader))
    × (read_entries [] ms ≡ Some (map entry_of l.found.entries))
    × (l.from.depth ≡ l.initial.from.depth) × (l.from.pass ≡ l.initial.from.pass)

abbrev pub decreases-members : goal.decreases-members
decreases-members g l = length l.from.reader
