-- Of the members that are read in the end, those so far are held, if they are kept.
use Rattle.std.proofs.Common.{◌≡◌, ℕ, ◌≤◌, List, length, Some}
use Rattle.std.specs.BTreeSet.{contains_text}
use Rattle.json.specs.Json as tree
use Rattle.json.specs.Json.{members, value}
use Rattle.json.specs.Token.{Token}
use Rattle.serde_json.specs.Data.{Members}
use Rattle.serde_json.specs.View.{members_view}
use Rattle.gltf_findings_members.specs.Kept.{HasMembers, LeavesBehind}
use Rattle.gltf_findings_members.proofs.Keeping.{IsAhead}
use Rattle.gltf_findings_members.proofs.excerpt.kept_members.Given as goal

abbrev pub invariant-members : goal.invariant-members
invariant-members l =
    let depth = l.initial.from.depth in
    (n : ℕ) × (length l.from.reader ≤ n) × (l.from.depth ≡ depth)
    × ((ms : Members) (rest : List Token) → HasMembers depth l.initial.from.reader ms rest → IsAhead (contains_text l.keep) depth ms rest l.from.reader n (members_view l.found.entries))
    × ((js : tree.Members) (rest : List Token) → members (value depth) n l.from.reader ≡ Some (js, rest) → LeavesBehind (contains_text l.keep) l.left js)

abbrev pub decreases-members : goal.decreases-members
decreases-members l = l.left
