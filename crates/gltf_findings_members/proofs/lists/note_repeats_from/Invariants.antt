-- The items that are left give all notices.
use Rattle.std.proofs.Common.{◌≡◌, ◌++◌, [], drop}
use Rattle.serde_json.specs.View.{items_view}
use Rattle.gltf_findings_members.specs.Lists.{repeats_from}
use Rattle.gltf_findings_members.specs.Noted.{steps_in, noted_in}
use Rattle.gltf_findings_members.proofs.lists.note_repeats_from.Given as goal

abbrev pub invariant-loop-number : goal.invariant-loop-number
invariant-loop-number l =
    let at = steps_in l.initial.to in
    (steps_in l.to ≡ at)
    × (noted_in l.to ++ repeats_from at l.before.keys l.number (items_view (drop l.number l.items)) ≡ noted_in l.initial.to ++ repeats_from at [] 0 (items_view l.items))
