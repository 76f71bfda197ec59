-- What is wrong beside the names that are listed.
use Rattle.std.proofs.Common.{subst}
use Rattle.gltf_findings_members.specs.Document.{CoversSome}
use Rattle.gltf_findings_members.proofs.document.look_beside.Goals as goal

pub returns-in_ok-quiet-in-Some : goal.returns-in_ok-quiet-in-Some
returns-in_ok-quiet-in-Some c =
    let j = c.in_ok-quiet-in-Some.ensures in
    (j.0, j.1, λ yes. let quiet = j.2 yes in (λ uses covers listed. quiet.0 uses (subst (CoversSome uses) c.in-Some.is listed), quiet.1))

pub returns-in_ok-quiet-in-None : goal.returns-in_ok-quiet-in-None
returns-in_ok-quiet-in-None c =
    let j = c.in_ok-quiet-in-None.ensures in
    (j.0, j.1, λ yes. let quiet = j.2 yes in (λ uses covers listed. quiet.0 uses covers, quiet.1))
