use Rattle.gltf_validation.proofs.Changing.{all_changed}
use Rattle.gltf_validation.proofs.changes.changes_leave_no_reports.Goals as goal

pub returns : goal.returns
returns c rules changes old new h clean = all_changed rules changes old new h clean
