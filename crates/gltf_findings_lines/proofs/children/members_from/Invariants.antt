-- A name leads to the last member of that name that is left, or else to the last one so far.
use Rattle.std.proofs.Common.{◌≡◌, ℕ, ◌-◌, List, length, drop, Some}
use Rattle.std.specs.Prelude.{MatchOption}
use Rattle.std.specs.BTreeMap.{get_by_text}
use Rattle.json.specs.Json.{Json, Members}
use Rattle.json.specs.Find.{InMembers}
use Rattle.gltf_findings_lines.specs.Places.{later_or, member_at}
use Rattle.gltf_findings_lines.specs.Children.{IsAt, tokens_of}
use Rattle.gltf_findings_lines.proofs.children.members_from.Given as goal

abbrev pub invariant-loop-key : goal.invariant-loop-key
invariant-loop-key l =
    (ms : Members) → InMembers (drop l.first (tokens_of l.nodes)) ms → (rest : Members) × InMembers (drop l.at (tokens_of l.nodes)) rest
    × ((part : List ℕ) → MatchOption (get_by_text l.names part) (member_at l.first part ms ≡ member_at l.at part rest)
    (λ k. (v : Json) × IsAt l.nodes k v × (member_at l.first part ms ≡ later_or (member_at l.at part rest) (Some (k, v)))))

abbrev pub decreases-loop-key : goal.decreases-loop-key
decreases-loop-key l = length l.nodes - l.at
