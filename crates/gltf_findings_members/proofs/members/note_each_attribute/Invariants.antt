-- The members that are left give all notices.
use Rattle.std.proofs.Common.{◌≡◌, ◌++◌}
use Rattle.serde_json.specs.View.{members_view}
use Rattle.gltf_findings_members.specs.Members.{attribute_notices}
use Rattle.gltf_findings_members.specs.Noted.{steps_in, noted_in}
use Rattle.gltf_findings_members.proofs.members.note_each_attribute.Given as goal

abbrev pub invariant-loop-name : goal.invariant-loop-name
invariant-loop-name l =
    let at = steps_in l.initial.to in
    (steps_in l.to ≡ at)
    × (noted_in l.to ++ attribute_notices at (members_view l.name-iterator) ≡ noted_in l.initial.to ++ attribute_notices at (members_view l.members.entries))
