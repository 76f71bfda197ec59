-- A document has findings.
use Rattle.std.proofs.Common.{◌≡◌, Ok, subst, arith}
use Rattle.gltf_root.specs.Answer.{answer, IsAnswer}
use Rattle.gltf_findings_lines.proofs.Built.{document_found}
use Rattle.gltf_findings_lines.proofs.check.check_json.Goals as goal

pub returns-in_ok-found-in-Ok : goal.returns-in_ok-found-in-Ok
returns-in_ok-found-in-Ok c =
    let is : c.args.read ≡ Ok c.in-Ok.root = grind arith in
    document_found c.in-Ok.root c.in_ok-document-in-Ok.document.items (subst (IsAnswer (answer c.args.parts.now.json.now)) is c.requires.read) c.in_ok-document-in-Ok.ensures
    (rw c.deref.ensures.value at c.in_ok-found-in-Ok.ensures)
