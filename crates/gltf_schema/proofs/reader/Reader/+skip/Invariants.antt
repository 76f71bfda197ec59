use Rattle.std.proofs.Common.{◌≡◌, ℕ, ◌+◌, ◌*◌, ◌≤◌, length}
use Rattle.json.specs.Json.{items, members, value}
use Rattle.json.specs.Reads.{skip_items, skip_members}
use Rattle.json.proofs.Grammar.{left}
use Rattle.gltf_schema.proofs.reader.Reader.+skip.Given as goal

abbrev pub decreases-skip_value : goal.decreases-skip_value
decreases-skip_value l = 2 * l.depth

abbrev pub decreases-skip_items : goal.decreases-skip_items
decreases-skip_items l = 2 * l.depth + 1

abbrev pub decreases-skip_members : goal.decreases-skip_members
decreases-skip_members l = 2 * l.depth + 1

abbrev pub invariant-skip_items-items : goal.invariant-skip_items-items
invariant-skip_items-items l =
    (n : ℕ) × (length l.self ≤ n) × (skip_items l.depth l.initial.self ≡ left (items (value l.depth) n l.self)) × (length l.self ≤ length l.initial.self)

abbrev pub decreases-skip_items-items : goal.decreases-skip_items-items
decreases-skip_items-items l = length l.self

abbrev pub invariant-skip_members-members : goal.invariant-skip_members-members
invariant-skip_members-members l =
    (n : ℕ) × (length l.self ≤ n) × (skip_members l.depth l.initial.self ≡ left (members (value l.depth) n l.self)) × (length l.self ≤ length l.initial.self)

abbrev pub decreases-skip_members-members : goal.decreases-skip_members-members
decreases-skip_members-members l = length l.self
