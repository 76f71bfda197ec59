-- The items that are left give all notices.
use Rattle.std.proofs.Common.{◌≡◌, ◌++◌, drop}
use Rattle.serde_json.specs.View.{items_view}
use Rattle.gltf_findings_members.specs.Noted.{steps_in, noted_in}
use Rattle.gltf_findings_members.specs.Required.{lacking_notices}
use Rattle.gltf_findings_members.proofs.required.note_lacking.Given as goal

abbrev pub invariant-loop-number : goal.invariant-loop-number
invariant-loop-number l =
    let at = steps_in l.initial.to in
    (steps_in l.to ≡ at)
    × (noted_in l.to ++ lacking_notices at l.name l.number (items_view (drop l.number l.items)) ≡ noted_in l.initial.to ++ lacking_notices at l.name 0 (items_view l.items))
