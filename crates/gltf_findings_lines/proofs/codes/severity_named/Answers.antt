-- What is not found is not listed, and all are listed.
use Rattle.std.proofs.Common.{sym, ◌∙◌}
use Rattle.gltf_findings_lines.proofs.AllNames.{no_severity}
use Rattle.gltf_findings_lines.proofs.codes.severity_named.Goals as goal

pub returns-clause-unknown : goal.returns-clause-unknown
returns-clause-unknown c = λ none. no_severity _ (sym c.severity_in.ensures ∙ none)
