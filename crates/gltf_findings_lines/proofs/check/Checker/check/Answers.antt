-- The parts of a file give what is found, or the container's fault does.
use Rattle.std.proofs.Common.{◌∙◌, ap, map, sym, subst}
use Rattle.gltf_findings_members.specs.Noted.{noted}
use Rattle.gltf_findings_lines.specs.Checked.{IsFoundBy}
use Rattle.gltf_findings_lines.specs.Members.{held_in}
use Rattle.gltf_findings_lines.proofs.Built.{parts_found}
use Rattle.gltf_findings_lines.proofs.check.Checker.check.Goals as goal

pub returns-in-Ok : goal.returns-in-Ok
returns-in-Ok c =
    parts_found c.args.self.now.outline (held_in c.in_ok-notices-in-Ok.notices) c.in-Ok.ensures (c.deref.ensures.value ∙ c.in_ok-container.ensures)
    (ap (map noted) c.notices_of.ensures) c.in_ok-notices-in-Ok.ensures c.in_ok-found-in-Ok.ensures

pub returns : goal.returns
returns c =
    subst (λ r. IsFoundBy c.args.self.now.outline c.args.options.now c.args.file.now r c.in_ok-found-in-Err.found) (sym c.in-Err.ensures)
    (rw (c.deref-in-Err.ensures.value, c.in_ok-container.ensures) at c.in_ok-found-in-Err.ensures)
