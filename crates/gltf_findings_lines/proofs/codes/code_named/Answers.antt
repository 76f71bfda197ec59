-- What is not found is not listed, and all are listed.
use Rattle.std.proofs.Common.{sym, ◌∙◌}
use Rattle.gltf_findings_lines.proofs.AllNames.{no_code}
use Rattle.gltf_findings_lines.proofs.codes.code_named.Goals as goal

pub returns-clause-unknown : goal.returns-clause-unknown
returns-clause-unknown c = λ none. no_code _ (sym c.code_in.ensures ∙ none)
