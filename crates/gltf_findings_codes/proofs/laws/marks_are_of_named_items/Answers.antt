use Rattle.gltf_findings_codes.proofs.Marked.{marked_all, marked_first}
use Rattle.gltf_findings_codes.proofs.laws.marks_are_of_named_items.Goals as goal

pub returns-clause-unmarked : goal.returns-clause-unmarked
returns-clause-unmarked c = marked_first

pub returns-clause-marked : goal.returns-clause-marked
returns-clause-marked c = marked_all
