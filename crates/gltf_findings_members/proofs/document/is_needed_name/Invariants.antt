-- No row before this one needs the member of the name.
use Rattle.std.proofs.Common.{◌≡◌, drop}
use Rattle.gltf_findings_members.specs.Document.{is_needed_name}
use Rattle.gltf_findings_members.proofs.document.is_needed_name.Given as goal

abbrev pub invariant-loop-row : goal.invariant-loop-row
invariant-loop-row l = is_needed_name l.rows l.name ≡ is_needed_name (drop l.row-index l.rows) l.name
