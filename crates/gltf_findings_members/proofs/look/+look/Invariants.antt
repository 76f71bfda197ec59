-- What is behind in a loop stands in front of what is left, and has no notices if that has none.
use Rattle.std.proofs.Common.{◌≡◌, ◌+◌, ◌*◌, ℕ, List, true, false, length, option_map}
use Rattle.json.specs.Json.{Items, Members, no_members, value}
use Rattle.gltf_findings_members.specs.Format.{Format}
use Rattle.gltf_findings_members.specs.Look.{AreQuietItemsOf, Beside, count_of}
use Rattle.gltf_findings_members.specs.Quiet.{AreQuietBy}
use Rattle.gltf_findings_members.specs.Walk.{member_notices, extension_members_notices}
use Rattle.gltf_findings_members.proofs.Having.{HasMember, HasSeen}
use Rattle.gltf_findings_members.proofs.Turning.{ItemsFrom, MembersFrom}
use Rattle.gltf_findings_members.proofs.look.+look.Given as goal

abbrev pub decreases-look : goal.decreases-look
decreases-look l = 10 * l.depth + 1

abbrev pub decreases-look_after : goal.decreases-look_after
decreases-look_after l = 10 * l.depth

abbrev pub decreases-look_array : goal.decreases-look_array
decreases-look_array l = 10 * l.depth + 4

abbrev pub decreases-look_extension_object : goal.decreases-look_extension_object
decreases-look_extension_object l = 10 * l.depth + 2

abbrev pub decreases-look_extension : goal.decreases-look_extension
decreases-look_extension l = 10 * l.depth + 3

abbrev pub decreases-look_extension_members : goal.decreases-look_extension_members
decreases-look_extension_members l = 10 * l.depth + 4

abbrev pub decreases-look_extensions : goal.decreases-look_extensions
decreases-look_extensions l = 10 * l.depth + 1

abbrev pub decreases-look_items : goal.decreases-look_items
decreases-look_items l = 10 * l.depth + 2

abbrev pub decreases-look_list : goal.decreases-look_list
decreases-look_list l = 10 * l.depth + 3

abbrev pub decreases-look_member : goal.decreases-look_member
decreases-look_member l = 10 * l.depth + 2

abbrev pub decreases-look_members : goal.decreases-look_members
decreases-look_members l = 10 * l.depth + 3

abbrev pub decreases-look_object : goal.decreases-look_object
decreases-look_object l = 10 * l.depth + 4

abbrev pub decreases-look_row : goal.decreases-look_row
decreases-look_row l = 10 * l.depth + 1

abbrev pub invariant-look_extension_members-members : goal.invariant-look_extension_members-members
invariant-look_extension_members-members l =
    let told = λ (f : Format). extension_members_notices f (option_map (λ rows. rows.now.items) l.rows) in
    (before : Members → Members) × MembersFrom (value l.depth) l.initial.reader l.reader before
    × (l.are_quiet ≡ true → (js : Members) → Beside l.table (λ f. AreQuietBy (told f) js) → Beside l.table (λ f. AreQuietBy (told f) (before js)))

abbrev pub decreases-look_extension_members-members : goal.decreases-look_extension_members-members
decreases-look_extension_members-members l = length l.reader

abbrev pub invariant-look_items-items : goal.invariant-look_items-items
invariant-look_items-items l =
    let Are = AreQuietItemsOf l.table (option_map (λ s. s.now) l.shape) l.names in
    (before : Items → Items) × ItemsFrom (value l.depth) l.initial.reader l.reader before
    × ((js : Items) → l.initial.left + count_of js ≡ l.left + count_of (before js))
    × (l.are_quiet ≡ true → (js : Items) → Are js → Are (before js))

abbrev pub decreases-look_items-items : goal.decreases-look_items-items
decreases-look_items-items l = length l.reader

abbrev pub invariant-look_members-members : goal.invariant-look_members-members
invariant-look_members-members l =
    let told = λ (f : Format). member_notices f l.rows in
    (before : Members → Members) × MembersFrom (value l.depth) l.initial.reader l.reader before
    × (l.are_quiet ≡ true → (js : Members) → Beside l.table (λ f. AreQuietBy (told f) js) → Beside l.table (λ f. AreQuietBy (told f) (before js)))
    × ((n : List ℕ) (js : Members) → HasMember n js → HasMember n (before js))
    × ((js : Members) → HasSeen l.rows l.seen (before js))
    × (l.is_empty ≡ false → (js : Members) → before js ≡ no_members → ⊥)

abbrev pub decreases-look_members-members : goal.decreases-look_members-members
decreases-look_members-members l = length l.reader
