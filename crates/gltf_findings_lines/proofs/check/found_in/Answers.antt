-- What is printed and counted are the findings that are chosen.
use Rattle.std.proofs.Common.{◌≡◌, ◌∙◌, ap, refl}
use Rattle.gltf_findings_lines.specs.Chosen.{chosen}
use Rattle.gltf_findings_lines.proofs.check.found_in.Goals as goal

pub returns : goal.returns
returns c =
    let o = c.args.options.now in
    let xs = chosen o.choices c.in_ok-all.all.items in
    let printed : c.deref-2.result.now ≡ xs = c.deref-2.ensures.value ∙ c.in_ok-shown.ensures ∙ ap (chosen o.choices) c.deref.ensures.value in
    let counted : c.deref-3.result.now ≡ xs = c.deref-3.ensures.value ∙ c.in_ok-shown.ensures ∙ ap (chosen o.choices) c.deref.ensures.value in
    record {
      findings = c.in_ok-all.all.items;
      are_at = c.in_ok-all.ensures;
      lines = rw printed at c.in_ok-lines.ensures;
      counts = rw counted at c.of-counts.ensures;
      reason = refl;
    }
