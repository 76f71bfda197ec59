-- The rows that are left give all notices.
use Rattle.std.proofs.Common.{◌≡◌, ◌++◌, drop}
use Rattle.serde_json.specs.View.{view}
use Rattle.gltf_findings_members.specs.Rows.{missing_notices}
use Rattle.gltf_findings_members.specs.Noted.{steps_in, noted_in}
use Rattle.gltf_findings_members.proofs.rows.note_missing.Given as goal

abbrev pub invariant-loop-row : goal.invariant-loop-row
invariant-loop-row l =
    let at = steps_in l.initial.to in
    (steps_in l.to ≡ at)
    × (noted_in l.to ++ missing_notices at (view l.value) (drop l.row-index l.rows) ≡ noted_in l.initial.to ++ missing_notices at (view l.value) l.rows)
