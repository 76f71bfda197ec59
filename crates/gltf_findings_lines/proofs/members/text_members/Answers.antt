-- A text that has no notices gives none, of whatever version it is, and an excerpt gives its own.
use Rattle.std.proofs.Common.{sym, ◌∙◌}
use Rattle.serde_json.specs.Read.{read}
use Rattle.serde_json.specs.View.{view}
use Rattle.gltf_findings_lines.proofs.Answered.{quiet_members, told_members}
use Rattle.gltf_findings_lines.proofs.members.text_members.Goals as goal

pub returns-in-Quiet : goal.returns-in-Quiet
returns-in-Quiet c = sym (quiet_members c.args.outline.now (read c.args.text.now) c.in-Quiet.ensures)

pub returns-in_ok-found-in-Excerpt : goal.returns-in_ok-found-in-Excerpt
returns-in_ok-found-in-Excerpt c = c.in_ok-found-in-Excerpt.ensures ∙ told_members c.args.outline.now c.args.text.now (view c.in-Excerpt.value) c.requires c.in-Excerpt.ensures
