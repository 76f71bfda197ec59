-- The list of used extensions is taken in.
use Rattle.std.proofs.Common.{◌≡◌, Some, sym, ap, ◌∙◌, subst, bytes_eq, arith}
use Rattle.std.specs.Prelude.{codes}
use Rattle.gltf_findings_members.specs.Look.{format_with}
use Rattle.gltf_findings_members.specs.Rows.{row_named}
use Rattle.gltf_findings_members.specs.Seen.{ListsUsed}
use Rattle.gltf_findings_members.proofs.Named.{member_of_row}
use Rattle.gltf_findings_members.proofs.Rooting.{not_full}
use Rattle.gltf_findings_members.proofs.document.look_root_member.Goals as goal

pub returns-in_ok-texts-in-extensionsUsed : goal.returns-in_ok-texts-in-extensionsUsed
returns-in_ok-texts-in-extensionsUsed c =
    let n = c.args.name.now in
    let e = c.in_ok-texts-in-extensionsUsed.ensures in
    let m = e.1.0 in
    let j = e.1.2 in
    let is : n ≡ codes "extensionsUsed" = grind arith in
    let row : row_named n c.args.rows.now ≡ Some m = sym c.requires ∙ e.1.1 in (
      j,
      e.1.3,
      (λ same. subst (λ o. ListsUsed o j (Some c.in_ok-texts-in-extensionsUsed.texts)) (sym e.0) e.1.4, λ other. absurd (other is)),
      λ yes. (
        λ uses covers listed at d read.
            member_of_row (format_with c.args.table.now uses) c.args.rows.now m at n d (ap (λ x. bytes_eq x (codes "extensions")) is) (ap (λ x. bytes_eq x (codes "extras")) is) row (e.1.5 uses covers at d read),
        not_full n j is,
      ),
    )
