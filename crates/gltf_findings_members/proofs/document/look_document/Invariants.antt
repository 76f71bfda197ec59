-- What was seen of the members so far holds of all, if it holds of those that are left.
use Rattle.std.proofs.Common.{ℕ, ◌+◌, List, Bool, length}
use Rattle.json.specs.Json.{Members, value}
use Rattle.gltf_findings_members.specs.Document.{AreFullLists, CoversSome, KeepsLoud, KeepsOnly}
use Rattle.gltf_findings_members.specs.Kept.{LeavesBehind}
use Rattle.gltf_findings_members.specs.LeftOut.{told_left_out}
use Rattle.gltf_findings_members.specs.Look.{Covers, format_with}
use Rattle.gltf_findings_members.specs.Quiet.{AreQuietBy}
use Rattle.gltf_findings_members.proofs.Having.{HasMember, HasSeen}
use Rattle.gltf_findings_members.proofs.Rooting.{UsedFrom}
use Rattle.gltf_findings_members.proofs.Turning.{MembersFrom}
use Rattle.gltf_findings_members.proofs.document.look_document.Given as goal

abbrev pub invariant-members : goal.invariant-members
invariant-members l =
    (before : Members → Members) × MembersFrom (value l.depth) l.initial.reader l.reader before
    × ((uses : List ℕ → Bool) (P : List ℕ → Bool) → Covers uses l.table → CoversSome uses l.used → KeepsLoud P l.loud → (js : Members)
    → AreQuietBy (told_left_out P (format_with l.table uses) l.rows) js → AreQuietBy (told_left_out P (format_with l.table uses) l.rows) (before js))
    × ((P : List ℕ → Bool) → KeepsLoud P l.loud → (js : Members) → AreFullLists P js → AreFullLists P (before js))
    × UsedFrom l.used before
    × ((n : List ℕ) (js : Members) → HasMember n js → HasMember n (before js))
    × ((js : Members) → HasSeen l.rows l.seen (before js))
    × ((P : List ℕ → Bool) (n : ℕ) (js : Members) → LeavesBehind P n js → LeavesBehind P (l.count + n) (before js))
    × ((P : List ℕ → Bool) → KeepsOnly P l.loud l.rows → (js : Members) → LeavesBehind P 0 js → LeavesBehind P l.reach (before js))

abbrev pub decreases-members : goal.decreases-members
decreases-members l = length l.reader
