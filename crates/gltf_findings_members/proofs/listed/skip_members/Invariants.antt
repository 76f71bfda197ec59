-- The members so far stand in front of those that are left.
use Rattle.std.proofs.Common.{length}
use Rattle.json.specs.Json.{Members, value}
use Rattle.gltf_findings_members.proofs.Turning.{MembersFrom}
use Rattle.gltf_findings_members.proofs.listed.skip_members.Given as goal

abbrev pub invariant-members : goal.invariant-members
invariant-members l = (before : Members → Members) × MembersFrom (value l.depth) l.initial.reader l.reader before

abbrev pub decreases-members : goal.decreases-members
decreases-members l = length l.reader
