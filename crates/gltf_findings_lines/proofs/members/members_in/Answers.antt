-- Bytes that are JSON are a text.
use Rattle.gltf_findings_lines.proofs.members.members_in.Goals as goal

pub returns-in-Err : goal.returns-in-Err
returns-in-Err c = absurd (c.in-Err.ensures.cases.0 c.requires.0)
