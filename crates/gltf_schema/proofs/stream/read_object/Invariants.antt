use Rattle.std.proofs.Common.{◌≡◌, ◌≤◌, ℕ, length}
use Rattle.json.specs.Json.{value, members}
use Rattle.serde_json.specs.Data.{Members, no_members}
use Rattle.serde_json.specs.Read.{of_members, converted}
use Rattle.gltf_schema.proofs.Standing.{Holds}
use Rattle.gltf_schema.proofs.stream.read_object.Given as goal

-- the members so far, and what the places hold of them
abbrev pub invariant-members : goal.invariant-members
invariant-members g l =
    (n : ℕ) × (ms : Members) × (length l.from.reader ≤ n)
    × (converted (λ x. of_members x no_members) (members (value l.initial.from.depth) (length l.initial.from.reader) l.initial.from.reader) ≡ converted (λ x. of_members x ms) (members (value l.initial.from.depth) n l.from.reader))
    × Holds g.T.Object.rows g.T.Object.keeps l.from.pass.seen ms (g.T.Object.members l.place) (g.T.Object.unknown l.place)
    × (l.from.depth ≡ l.initial.from.depth)

abbrev pub decreases-members : goal.decreases-members
decreases-members g l = length l.from.reader
