-- What is left out of the document's findings is what the members say.
use Rattle.std.proofs.Common.{◌≡◌, [], map, subst, sym, arith}
use Rattle.std.proofs.lemmas.Grind.{common_steps}
use Rattle.gltf_findings_members.specs.Noted.{noted}
use Rattle.gltf_findings_lines.specs.Sources.{IsSaidBy, is_said}
use Rattle.gltf_findings_lines.proofs.Apart.{said_by_codes}
use Rattle.gltf_findings_lines.proofs.Unsaid.{all_unsaid, unsaid_same}
use Rattle.gltf_findings_lines.proofs.sources.Sources.add_behind.Goals as goal

pub returns-then-is_empty : goal.returns-then-is_empty
returns-then-is_empty c =
    let s = c.args.self.now in
    let none : s.members.now ≡ [] = grind (arith, common_steps) in
    let same = all_unsaid s.document.now in
    grind (arith, common_steps, none, same)

pub returns : goal.returns
returns c =
    let s = c.args.self.now in
    let same = unsaid_same c.in_ok-said.said (is_said (map noted s.members.now)) s.document.now c.in_ok-said.ensures in
    grind (arith, common_steps, same)

pub add_document-requires : goal.add_document-requires
add_document-requires c =
    let s = c.args.self.now in
    subst (λ cs. IsSaidBy cs c.in_ok-said.said) (sym c.deref.ensures.value) (said_by_codes s.members.now c.in_ok-codes.codes.items c.in_ok-said.said c.in_ok-said.ensures c.in_ok-codes.ensures)
