-- The attributes so far stand in front of those that are left, and have no notices if those have none.
use Rattle.std.proofs.Common.{◌≡◌, true, false, length}
use Rattle.json.specs.Json.{Members, no_members, value}
use Rattle.gltf_findings_members.specs.Members.{attribute_notices}
use Rattle.gltf_findings_members.specs.Quiet.{AreQuietBy}
use Rattle.gltf_findings_members.proofs.Turning.{MembersFrom}
use Rattle.gltf_findings_members.proofs.listed.look_attributes.Given as goal

abbrev pub invariant-members : goal.invariant-members
invariant-members l =
    (before : Members → Members) × MembersFrom (value l.depth) l.initial.reader l.reader before
    × (l.are_quiet ≡ true → (js : Members) → AreQuietBy attribute_notices js → AreQuietBy attribute_notices (before js))
    × ((js : Members) → (js ≡ no_members → ⊥) → before js ≡ no_members → ⊥)
    × (l.is_empty ≡ false → (js : Members) → before js ≡ no_members → ⊥)

abbrev pub decreases-members : goal.decreases-members
decreases-members l = length l.reader
