-- What the document holds is what is said of it.
use Rattle.gltf_findings_lines.proofs.check.report_of.Goals as goal

pub returns : goal.returns
returns c = record { info = c.of-info.result; is_info = c.of-info.ensures; each = c.in_ok-text.ensures }
