-- What is left of each loop gives all notices.
use Rattle.std.proofs.Common.{◌≡◌, ◌++◌, drop, option_map}
use Rattle.serde_json.specs.View.{items_view, members_view}
use Rattle.gltf_findings_members.specs.Format.{format_of}
use Rattle.gltf_findings_members.specs.Noted.{steps_in, noted_in}
use Rattle.gltf_findings_members.specs.Walk.{item_notices, member_notices, extension_members_notices}
use Rattle.gltf_findings_members.proofs.walk.+walk.Given as goal

abbrev pub invariant-note_items-loop-number : goal.invariant-note_items-loop-number
invariant-note_items-loop-number l =
    let at = steps_in l.initial.to in
    let f = format_of l.table in
    let s = option_map (λ s. s.now) l.shape in
    (steps_in l.to ≡ at)
    × (noted_in l.to ++ item_notices f s at l.number (items_view (drop l.number l.item-items)) ≡ noted_in l.initial.to ++ item_notices f s at 0 (items_view l.item-items))

abbrev pub invariant-note_members-loop-name : goal.invariant-note_members-loop-name
invariant-note_members-loop-name l =
    let at = steps_in l.initial.to in
    let f = format_of l.table in
    (steps_in l.to ≡ at)
    × (noted_in l.to ++ member_notices f l.rows at (members_view l.name-iterator) ≡ noted_in l.initial.to ++ member_notices f l.rows at (members_view l.members.entries))

abbrev pub invariant-note_extension_members-loop-name : goal.invariant-note_extension_members-loop-name
invariant-note_extension_members-loop-name l =
    let at = steps_in l.initial.to in
    let f = format_of l.table in
    let rows = option_map (λ rows. rows.now.items) l.rows in
    (steps_in l.to ≡ at)
    × (noted_in l.to ++ extension_members_notices f rows at (members_view l.name-iterator) ≡ noted_in l.initial.to ++ extension_members_notices f rows at (members_view l.members.entries))
