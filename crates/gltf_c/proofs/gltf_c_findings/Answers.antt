-- A name that is UTF-8 is that of the file.
use Rattle.gltf_c.proofs.gltf_c_findings.Goals as goal

pub returns-in-Ok-clause-listed : goal.returns-in-Ok-clause-listed
returns-in-Ok-clause-listed c = λ utf8. rw c.in-Ok.ensures.cases.0 at c.find.ensures
